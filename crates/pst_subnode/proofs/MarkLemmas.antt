-- A list that is met while it is marked nests too deep.
use Rattle.std.proofs.Common.{◌≡◌, ℕ, zero, suc, ◌+◌, ◌*◌, ◌<◌, ◌≤◌, Bool, true, false, List, ◌∷◌, Option, Some, None, refl, sym, ◌∙◌, arith, ◌⊎◌, inl, inr}
use Rattle.std.specs.Prelude.{cond, if◌then◌else◌}
use Rattle.std.specs.Ordering.{nat_cmp, eq_by_cmp}
use Rattle.std.proofs.lemmas.Map.Lookups.{exact_unsigned}
use Rattle.std.proofs.lemmas.Map.Views.{tells_apart}
use Rattle.pst_fault.specs.declared.fault.Fault.{Fault}
use Rattle.pst_fault.specs.First.{◌then◌}
use Rattle.pst_fault.proofs.FirstLemmas.{then_none, then_some}
use Rattle.pst_page.specs.declared.entry.BlockEntry.{BlockEntry}
use Rattle.pst_block.specs.Block.{bid_key}
use Rattle.pst_block.specs.Table.{Table, entry_of, body_of}
use Rattle.pst_datatree.specs.Bid.{is_no_block}
use Rattle.pst_datatree.specs.Data.{data_fault}
use Rattle.pst_datatree.proofs.KeyLemmas.{entry_same}
use Rattle.pst_subnode.specs.declared.sub.Sub.{Sub}
use Rattle.pst_subnode.specs.declared.heights.Heights.{Heights}
use Rattle.pst_subnode.specs.List.{subs_of, list_fault}
use Rattle.pst_fault.specs.Each.{first_of}
use Rattle.pst_subnode.specs.Tree.{entry_fault, nesting, sub_fault}
use Rattle.pst_subnode.specs.Heights.{state_at, state_of, NoNewMarks}
use Rattle.pst_subnode.specs.Marks.{at_list, at_entries, at_entry, IsSiList, rank_at, rank_of, LeadsTo, HaveCome}
use Rattle.pst_datatree.proofs.KeyLemmas.{none_same}
use Rattle.pst_subnode.specs.Body.{has_level_one}
use Rattle.pst_subnode.proofs.SubLemmas.{sub_fault_below, sub_fault_list}
use Rattle.pst_subnode.proofs.HeightLemmas.{entry_or_deep}
use Rattle.pst_subnode.proofs.HeightLaws.{subs_same, list_none_same}

-- ---- one state is changed

abbrev pub IsPut : Heights → Heights → ℕ → Option ℕ → Type 0
IsPut old new bid state = (key : ℕ) → state_at new key ≡ cond (eq_by_cmp nat_cmp (bid_key bid) key) state (state_at old key)

abbrev pub IsSame : Heights → Heights → Type 0
IsSame old new = (key : ℕ) → state_at new key ≡ state_at old key

-- the state of a key is the new one, and it is the key that was put, or it is the old one
pub put_at : (old new : Heights) (bid : ℕ) (state : Option ℕ) (key : ℕ) → IsPut old new bid state → ((bid_key bid ≡ key) × (state_at new key ≡ state)) ⊎ (state_at new key ≡ state_at old key)
put_at old new bid state key put = by_test (eq_by_cmp nat_cmp (bid_key bid) key) refl (put key)
  where
    by_test : (v : Bool) → eq_by_cmp nat_cmp (bid_key bid) key ≡ v → state_at new key ≡ cond v state (state_at old key) → ((bid_key bid ≡ key) × (state_at new key ≡ state)) ⊎ (state_at new key ≡ state_at old key)
    by_test true here is = inl (tells_apart exact_unsigned (bid_key bid) key here, is)
    by_test false here is = inr is

pub put_cases : (old new : Heights) (bid : ℕ) (state : Option ℕ) (q : ℕ) → IsPut old new bid state → ((bid_key bid ≡ bid_key q) × (state_of new q ≡ state)) ⊎ (state_of new q ≡ state_of old q)
put_cases old new bid state q put = put_at old new bid state (bid_key q) put

-- ---- bit 0 of an identifier says nothing

pub fault_same : (t : Table) (k a b : ℕ) → bid_key a ≡ bid_key b → list_fault t a ≡ None → sub_fault t k a ≡ sub_fault t k b
unfolding sub_fault
fault_same t zero a b e none = rw (none_same a b e) refl
fault_same t (suc k) a b e none = rw (none_same a b e, none, list_none_same t a b e none, subs_same t a b e) refl

-- ---- ranks

pub rank_small : (t : Table) (bid : ℕ) → rank_of t bid ≤ 1
unfolding rank_of
rank_small t bid = by_entry (entry_of t bid)
  where
    by_level : (b : Bool) → (if b then 1 else 0) ≤ 1
    by_level true = omega arith
    by_level false = omega arith

    by_entry : (o : Option BlockEntry) → rank_at t o ≤ 1
    by_entry None = omega arith
    by_entry (Some e) = by_level (has_level_one (body_of t e))

pub rank_same : (t : Table) (a b : ℕ) → bid_key a ≡ bid_key b → rank_of t a ≡ rank_of t b
unfolding rank_of
rank_same t a b e = rw (entry_same t a b e) refl

pub rank_none : (t : Table) (bid : ℕ) (e : BlockEntry) → entry_of t bid ≡ Some e → has_level_one (body_of t e) ≡ false → rank_of t bid ≡ 0
unfolding rank_of
rank_none t bid e there level = rw (there, level) refl

pub rank_one : (t : Table) (bid : ℕ) (e : BlockEntry) → IsSiList t bid e → rank_of t bid ≡ 1
unfolding rank_of
rank_one t bid e is = rw (is.entry, is.level) refl

-- ---- from a place to the next

abbrev Goes : (ℕ → Option Fault) → ℕ → ℕ → (ℕ → Option Fault) → ℕ → ℕ → Type 0
Goes place rank limit next lower below =
    (k : ℕ) → k ≤ limit →
    (place k ≡ Some nesting) ⊎ ((l : ℕ) × (2 * l + lower ≤ 2 * k + rank) × (l ≤ below) × ((f : Fault) → next l ≡ Some f → place k ≡ Some f))

leads_on : (t : Table) (bid top : ℕ) (place next : ℕ → Option Fault) (rank limit lower below : ℕ) → Goes place rank limit next lower below → LeadsTo t bid top place rank limit → LeadsTo t bid top next lower below
leads_on t bid top place next rank limit lower below goes leads low le =
    elim (leads low le) [
      | inl deep ↦ inl deep
      | inr w ↦
          elim (goes w.0 w.2) [
            | inl deep ↦ inl (w.3 nesting deep)
            | inr v ↦ inr (v.0, omega (arith, v.1, w.1), v.2, (λ f at. w.3 f (v.3 f at)))
          ]
    ]

pub come_on : (t : Table) (old new : Heights) (place next : ℕ → Option Fault) (rank limit lower below : ℕ) → NoNewMarks old new → below ≤ limit → Goes place rank limit next lower below → HaveCome t old place rank limit → HaveCome t new next lower below
come_on t old new place next rank limit lower below marks le goes come = record {
  from = λ bid marked.
      let w = come.from bid (marks bid marked) in
      (w.0, omega (arith, w.1), leads_on t bid w.0 place next rank limit lower below goes w.2);
}

-- no SIBLOCK lies at a place of a lower rank
pub lower_rank : (t : Table) (h : Heights) (place : ℕ → Option Fault) (limit : ℕ) → HaveCome t h place 1 limit → HaveCome t h place 0 limit
lower_rank t h place limit come =
    come_on t h h place place 1 limit 0 limit (λ q marked. marked) (omega arith) (λ k le. inr (k, omega arith, le, (λ f at. at))) come

-- into a list
into_list : (t : Table) (rank limit below bid : ℕ) → below + 1 ≡ limit → is_no_block bid ≡ false → list_fault t bid ≡ None → Goes (at_list t bid) rank limit (at_entries t (subs_of t bid)) 1 below
into_list t rank limit below bid more e none zero le = inl (sub_fault_below t 0 bid refl e)
into_list t rank limit below bid more e none (suc k) le =
    inr (k, omega arith, omega (arith, more), (λ f at. sub_fault_list t (suc k) k bid (omega arith) e ∙ (then_none _ _ none ∙ at)))

-- to the first entry
pub to_entry : (t : Table) (h : Heights) (limit : ℕ) (s : Sub) (xs rest : List Sub) → xs ≡ s ∷ rest → HaveCome t h (at_entries t xs) 1 limit → HaveCome t h (at_entry t s) 1 limit
unfolding first_of
to_entry t h limit s xs rest is come =
    come_on t h h (at_entries t xs) (at_entry t s) 1 limit 1 limit (λ q marked. marked) (omega arith)
    (λ k le. inr (k, omega arith, le, (λ f at. rw is (then_some _ _ f at)))) come

-- to the entries behind the first, which has no fault
pub past_entry : (t : Table) (old new : Heights) (limit : ℕ) (s : Sub) (xs rest : List Sub) → xs ≡ s ∷ rest → NoNewMarks old new → entry_fault t (sub_fault t limit) s ≡ None → HaveCome t old (at_entries t xs) 1 limit → HaveCome t new (at_entries t rest) 1 limit
unfolding first_of
past_entry t old new limit s xs rest is marks none come =
    come_on t old new (at_entries t xs) (at_entries t rest) 1 limit 1 limit marks (omega arith)
    (λ k le. elim (entry_or_deep t limit k s none) [
      | inl also ↦ inr (k, omega arith, le, (λ f at. rw is (then_none _ _ also ∙ at)))
      | inr deep ↦ inl (rw is (then_some _ _ nesting deep))
    ]) come

-- from an entry to its own subnodes
pub to_below : (t : Table) (h : Heights) (limit : ℕ) (s : Sub) → data_fault t s.bid_data ≡ None → HaveCome t h (at_entry t s) 1 limit → HaveCome t h (at_list t s.bid_sub) 1 limit
unfolding entry_fault
to_below t h limit s none come =
    come_on t h h (at_entry t s) (at_list t s.bid_sub) 1 limit 1 limit (λ q marked. marked) (omega arith)
    (λ k le. inr (k, omega arith, le, (λ f at. then_none _ _ none ∙ at))) come

-- from a list that is marked for that: what leads from the list itself, and what led to it
pub mark_come : (t : Table) (old new : Heights) (place next : ℕ → Option Fault) (rank limit lower below bid : ℕ) → below ≤ limit → IsPut old new bid (Some 0) → ((q : ℕ) → bid_key bid ≡ bid_key q → LeadsTo t q limit next lower below) → Goes place rank limit next lower below → HaveCome t old place rank limit → HaveCome t new next lower below
mark_come t old new place next rank limit lower below bid le put own goes come = record {
  from = λ q marked.
      elim (put_cases old new bid (Some 0) q put) [
        | inl key ↦ (limit, le, own q key.0)
        | inr same ↦
            let w = come.from q (sym same ∙ marked) in
            (w.0, omega (arith, w.1), leads_on t q w.0 place next rank limit lower below goes w.2)
      ];
}

-- into an SLBLOCK
pub begin_come : (t : Table) (old new : Heights) (limit below bid : ℕ) (xs : List Sub) → xs ≡ subs_of t bid → below + 1 ≡ limit → is_no_block bid ≡ false → list_fault t bid ≡ None → IsPut old new bid (Some 0) → HaveCome t old (at_list t bid) 0 limit → HaveCome t new (at_entries t xs) 1 below
begin_come t old new limit below bid xs are more e none put come =
    rw are (mark_come t old new (at_list t bid) (at_entries t (subs_of t bid)) 0 limit 1 below bid (omega (arith, more)) put own (into_list t 0 limit below bid more e none) come)
  where
    own : (q : ℕ) → bid_key bid ≡ bid_key q → LeadsTo t q limit (at_entries t (subs_of t bid)) 1 below
    own q key zero le = inl (sym (fault_same t 0 bid q key none) ∙ sub_fault_below t 0 bid refl e)
    own q key (suc low) le =
        inr (low, omega arith, omega (arith, more), (λ f at. sym (fault_same t (suc low) bid q key none) ∙ (sub_fault_list t (suc low) low bid (omega arith) e ∙ (then_none _ _ none ∙ at))))

-- ---- a list that is met while it is marked

deep : (fuel : ℕ) (t : Table) (bid top rank limit low : ℕ) → rank_of t bid ≤ rank → limit ≤ top → LeadsTo t bid top (at_list t bid) rank limit → low < fuel → low ≤ top → sub_fault t low bid ≡ Some nesting
deep zero t bid top rank limit low high fits leads lt le = absurd (omega arith)
deep (suc fuel) t bid top rank limit low high fits leads lt le =
    elim (leads low le) [
      | inl is ↦ is
      | inr w ↦ w.3 nesting (deep fuel t bid top rank limit w.0 high fits leads (omega (arith, w.1)) (omega (arith, w.2)))
    ]

-- it nests too deep, also where it is walked afresh
pub marked_nests : (t : Table) (h : Heights) (bid rank limit : ℕ) → rank_of t bid ≤ rank → HaveCome t h (at_list t bid) rank limit → state_of h bid ≡ Some 0 → sub_fault t limit bid ≡ Some nesting
marked_nests t h bid rank limit high come marked =
    let w = come.from bid marked in
    deep (suc limit) t bid w.0 rank limit limit high w.1 w.2 (omega arith) w.1
