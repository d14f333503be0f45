-- What a walk adds to what is known, over the parts of a list and in loops.
use Rattle.std.proofs.Common.{◌≡◌, ℕ, ◌+◌, ◌<◌, List, [], ◌∷◌, arith, inl, inr}
use Rattle.std.proofs.lemmas.Bool.{cases_lt}
use Rattle.std.specs.List.{Contains}
use Rattle.pst_page.specs.declared.entry.BlockEntry.{BlockEntry}
use Rattle.pst_block.specs.Table.{Table, body_of}
use Rattle.pst_datatree.specs.declared.seen.Seen.{Seen}
use Rattle.pst_datatree.specs.Names.{IsInternal}
use Rattle.pst_subnode.specs.declared.sub.Sub.{Sub}
use Rattle.pst_subnode.specs.declared.heights.Heights.{Heights}
use Rattle.pst_datatree.specs.List.{count_in}
use Rattle.pst_subnode.specs.Body.{leaf_bid_in}
use Rattle.pst_subnode.specs.List.{subs_of}
use Rattle.pst_subnode.specs.Marks.{IsList, IsSiList, rank_of}
use Rattle.pst_subnode.specs.Reach.{NamesNext, Leads, goes_on}
use Rattle.pst_subnode.specs.Known.{IsKnownBlock, Adds, IsKnownList, IsKnownEntry, AreLedTo, AreLedEach, AreKnownEach, AreKnownOr}
use Rattle.pst_subnode.proofs.ReachLemmas.{slblock_names, siblock_names, slblock_only, siblock_only}
use Rattle.pst_subnode.proofs.AddLemmas.{contains_cases, adds_then, adds_of, high_later, entry_later}

-- ---- the parts of a list

-- chains lead to what its entries name
pub led_entries : (t : Table) (bid : ℕ) (xs : List Sub) → IsList t bid → rank_of t bid ≡ 0 → xs ≡ subs_of t bid → (from : List ℕ) → Leads t from bid → (sub : Sub) → Contains xs sub → AreLedTo t from sub
led_entries t bid xs is rank are from led sub w =
    let names = slblock_names t bid sub is rank (rw are at w) in
    (goes_on bid sub.bid_data led names.0, goes_on bid sub.bid_sub led names.1)

-- all that it names is known where its entries are
pub slblock_known : (t : Table) (bid : ℕ) (xs : List Sub) (s : Seen) (h : Heights) → IsList t bid → rank_of t bid ≡ 0 → xs ≡ subs_of t bid → ((sub : Sub) → Contains xs sub → IsKnownEntry t s h sub) → (next : ℕ) (x : BlockEntry) → NamesNext t bid next → IsInternal t next x → IsKnownBlock s h next
slblock_known t bid xs s h is rank are known next x names internal =
    let w = slblock_only t bid next is rank names in
    let entry = known w.0 (rw are w.1) in
    elim w.2 [
      | inl data_is ↦ inl (rw data_is (entry.0 x (rw data_is at internal)))
      | inr sub_is ↦ inr (rw sub_is (entry.1 x (rw sub_is at internal)))
    ]

pub led_leaves : (t : Table) (bid : ℕ) (e : BlockEntry) (n : ℕ) → IsSiList t bid e → n ≡ count_in (body_of t e) → (from : List ℕ) → Leads t from bid → (i : ℕ) → i < n → Leads t from (leaf_bid_in (body_of t e) i)
led_leaves t bid e n is count from led i lt = goes_on bid (leaf_bid_in (body_of t e) i) led (siblock_names t bid e i is (omega (arith, lt, count)))

pub siblock_known : (t : Table) (bid : ℕ) (e : BlockEntry) (n : ℕ) (s : Seen) (h : Heights) → IsSiList t bid e → n ≡ count_in (body_of t e) → ((i : ℕ) → i < n → IsKnownList t h (leaf_bid_in (body_of t e) i)) → (next : ℕ) (x : BlockEntry) → NamesNext t bid next → IsInternal t next x → IsKnownBlock s h next
siblock_known t bid e n s h is count known next x names internal =
    let w = siblock_only t bid next e is names in
    inr (rw w.2 (known w.0 (omega (arith, count, w.1)) x (rw w.2 at internal)))

-- ---- loops

pub adds_entry : (t : Table) (xs : List Sub) (sub : Sub) (s : Seen) (h : Heights) (s' : Seen) (h' : Heights) (s'' : Seen) (h'' : Heights) → Contains xs sub → Adds t (AreLedEach t xs) s h s' h' → Adds t (λ from. AreLedTo t from sub) s' h' s'' h'' → Adds t (AreLedEach t xs) s h s'' h''
adds_entry t xs sub s h s' h' s'' h'' w so_far one = adds_then t (AreLedEach t xs) s h s' h' s'' h'' so_far (adds_of t (λ from. AreLedTo t from sub) (AreLedEach t xs) s' h' s'' h'' (λ from led. led sub w) one)

pub leaf_next : (t : Table) (e : BlockEntry) (AreLed : List ℕ → Type 0) (i : ℕ) (s : Seen) (h : Heights) (s' : Seen) (h' : Heights) → ((j : ℕ) → j < i → IsKnownList t h (leaf_bid_in (body_of t e) j)) → Adds t AreLed s h s' h' → IsKnownList t h' (leaf_bid_in (body_of t e) i) → (j : ℕ) → j < i + 1 → IsKnownList t h' (leaf_bid_in (body_of t e) j)
leaf_next t e AreLed i s h s' h' before adds this j lt x internal =
    elim (cases_lt j i) [
      | inl less ↦ high_later h h' (leaf_bid_in (body_of t e) j) adds.lists (before j less x internal)
      | inr least ↦ let same : j ≡ i = omega arith in rw same (this x (rw same at internal))
    ]

pub entry_next : (t : Table) (AreLed : List ℕ → Type 0) (all xs rest : List Sub) (sub : Sub) (s : Seen) (h : Heights) (s' : Seen) (h' : Heights) → xs ≡ sub ∷ rest → AreKnownOr t s h all xs → Adds t AreLed s h s' h' → IsKnownEntry t s' h' sub → AreKnownOr t s' h' all rest
entry_next t AreLed all xs rest sub s h s' h' is so_far adds this other w =
    elim (so_far other w) [
      | inl known ↦ inl (entry_later t AreLed s h s' h' other adds known)
      | inr left ↦
          elim (contains_cases sub rest other (rw is at left)) [
            | inl here ↦ inl (rw (← here) this)
            | inr later ↦ inr later
          ]
    ]

pub entries_done : (t : Table) (s : Seen) (h : Heights) (all xs : List Sub) → xs ≡ [] → AreKnownOr t s h all xs → AreKnownEach t s h all
entries_done t s h all xs is known sub w =
    elim (known sub w) [
      | inl already ↦ already
      | inr left ↦ let none : Contains [] sub = (rw is at left) in absurd (omega (arith, none.1))
    ]
