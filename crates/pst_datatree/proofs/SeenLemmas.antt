-- What is known of data trees is true.
use Rattle.std.proofs.Common.{◌≡◌, ℕ, ◌+◌, Bool, true, false, List, Some, None, refl, sym, ap, ◌∙◌, arith, BTreeSet, ◌⊎◌, inl, inr}
use Rattle.std.specs.Prelude.{cond}
use Rattle.std.specs.Ordering.{nat_cmp, eq_by_cmp}
use Rattle.std.specs.BTreeMap.{is_at}
use Rattle.std.specs.BTreeSet.{contains, IsEmpty}
use Rattle.std.proofs.lemmas.Bool.Decides.{nat_tests}
use Rattle.std.proofs.lemmas.Map.Lookups.{exact_unsigned}
use Rattle.std.specs.List.{Contains}
use Rattle.std.proofs.lemmas.Cmp.{eq_by_cmp_equiv, nat_cmp_total}
use Rattle.std.proofs.lemmas.Map.Views.{tells_apart, Contains-from_any, list_any-from_Contains}
use Rattle.pst_fault.specs.First.{holds_or}
use Rattle.pst_fault.proofs.FirstLemmas.{then_some}
use Rattle.pst_page.specs.declared.entry.BlockEntry.{BlockEntry}
use Rattle.pst_block.specs.Block.{bid_key}
use Rattle.pst_block.specs.Table.{Table, entry_of, body_of}
use Rattle.pst_datatree.specs.declared.seen.Seen.{Seen}
use Rattle.pst_datatree.specs.List.{is_block_list, has_level_two}
use Rattle.pst_datatree.specs.Data.{bad_tree, xblock_fault, xxblock_fault}
use Rattle.pst_datatree.specs.Seen.{has_tree, holds_tree, tree_keys, raised, NoNewTwo, IsSoundTree, IsSeenTrue}
use Rattle.pst_datatree.proofs.KeyLemmas.{entry_same}

-- what is in a set after an insertion was there, or is the key
pub only_new : (old new : BTreeSet ℕ) (k : ℕ) → ((q : ℕ) → contains nat_cmp new q ≡ cond (is_at (nat_cmp k) q) true (contains nat_cmp old q)) → (q : ℕ) → contains nat_cmp new q ≡ true → (contains nat_cmp old q ≡ true) ⊎ (k ≡ q)
only_new old new k more q e = by_test (eq_by_cmp nat_cmp k q) refl (sym (more q) ∙ e)
  where
    by_test : (v : Bool) → eq_by_cmp nat_cmp k q ≡ v → cond v true (contains nat_cmp old q) ≡ true → (contains nat_cmp old q ≡ true) ⊎ (k ≡ q)
    by_test true here h = inr (tells_apart exact_unsigned k q here)
    by_test false here h = inl h

-- nothing is known
pub nothing_true : (t : Table) (s : Seen) → IsEmpty s.trees → IsSeenTrue t s
unfolding has_tree
nothing_true t s empty = record { holds = λ bid e there known. let bad : false ≡ true = (rw empty at known) in cc }

-- the same is known
pub same_true : (t : Table) (old new : Seen) → new.trees ≡ old.trees → IsSeenTrue t old → IsSeenTrue t new
unfolding has_tree
same_true t old new same true_of = record { holds = λ bid e there known. true_of.holds bid e there (rw same at known) }

-- one more is known
pub put_true : (t : Table) (old new : Seen) (bid : ℕ) (e : BlockEntry) → ((other : ℕ) → has_tree new other ≡ true → (has_tree old other ≡ true) ⊎ (bid_key bid ≡ bid_key other)) → entry_of t bid ≡ Some e → IsSoundTree t e → IsSeenTrue t old → IsSeenTrue t new
put_true t old new bid e only listed sound true_of = record { holds = each }
  where
    each : (other : ℕ) (x : BlockEntry) → entry_of t other ≡ Some x → has_tree new other ≡ true → IsSoundTree t x
    each other x there known =
        elim (only other known) [
          | inl was ↦ true_of.holds other x there was
          | inr key ↦ let same : Some e ≡ Some x = sym listed ∙ entry_same t bid other key ∙ there in let is : e ≡ x = cc in rw (← is) sound
        ]

-- ---- which of the two an internal block is

level_one : (body : List ℕ) → has_level_two body ≡ true → is_block_list 1 body ≡ false
unfolding is_block_list has_level_two
level_one body h = grind (arith, nat_tests)

level_two : (body : List ℕ) → has_level_two body ≡ false → is_block_list 2 body ≡ false
unfolding is_block_list has_level_two
level_two body h = grind (arith, nat_tests)

-- an XXBLOCK is no XBLOCK
pub xblock_of_two : (t : Table) (e : BlockEntry) → has_level_two (body_of t e) ≡ true → xblock_fault t e ≡ Some (bad_tree e)
unfolding xblock_fault
xblock_of_two t e h =
    let first : holds_or (is_block_list 1 (body_of t e)) (bad_tree e) ≡ Some (bad_tree e) = rw (level_one (body_of t e) h) refl in
    then_some (holds_or (is_block_list 1 (body_of t e)) (bad_tree e)) _ (bad_tree e) first

xxblock_of_one : (t : Table) (e : BlockEntry) → has_level_two (body_of t e) ≡ false → xxblock_fault t e ≡ Some (bad_tree e)
unfolding xxblock_fault
xxblock_of_one t e h =
    let first : holds_or (is_block_list 2 (body_of t e)) (bad_tree e) ≡ Some (bad_tree e) = rw (level_two (body_of t e) h) refl in
    then_some (holds_or (is_block_list 2 (body_of t e)) (bad_tree e)) _ (bad_tree e) first

pub sound_one : (t : Table) (e : BlockEntry) → has_level_two (body_of t e) ≡ false → IsSoundTree t e → xblock_fault t e ≡ None
sound_one t e level sound = elim sound [ inl one ↦ one | inr two ↦ let bad = sym two ∙ xxblock_of_one t e level in cc ]

pub sound_two : (t : Table) (e : BlockEntry) → has_level_two (body_of t e) ≡ true → IsSoundTree t e → xxblock_fault t e ≡ None
sound_two t e level sound = elim sound [ inl one ↦ let bad = sym one ∙ xblock_of_two t e level in cc | inr two ↦ two ]

-- ---- counts

pub raise_one : (n k count new : ℕ) → new ≡ raised count 1 → count ≡ raised n k → new ≡ raised n (k + 1)
raise_one n k count new one is = omega (arith, one, is)

-- one more is known
pub put_ahead : (count n m k : ℕ) → m ≡ n + 1 → count ≡ raised n (k + 1) → count ≡ raised m k
put_ahead count n m k more is = omega (arith, more, is)

-- an XBLOCK is put in
pub put_level : (t : Table) (old mid new : Seen) (e : BlockEntry) → entry_of t e.bid ≡ Some e → has_level_two (body_of t e) ≡ false → ((q : ℕ) → has_tree mid q ≡ has_tree old q) → ((other : ℕ) → has_tree new other ≡ true → (has_tree mid other ≡ true) ⊎ (bid_key e.bid ≡ bid_key other)) → NoNewTwo t old new
put_level t old mid new e listed level same only bid x there two known =
    elim (only bid known) [
      | inl was ↦ sym (same bid) ∙ was
      | inr key ↦
          let both : Some e ≡ Some x = sym listed ∙ entry_same t e.bid bid key ∙ there in
          let is : e ≡ x = cc in
          let bad : true ≡ false = sym two ∙ (ap (λ y. has_level_two (body_of t y)) (sym is) ∙ level) in cc
    ]

-- ---- keys

pub nothing_held : (trees : BTreeSet ℕ) → IsEmpty trees → (key : ℕ) → contains nat_cmp trees key ≡ false
nothing_held trees empty key = rw empty refl

pub held_key : (s : Seen) (key : ℕ) → holds_tree s key ≡ true → Contains (tree_keys s) key
held_key s key is = Contains-from_any (λ x y h. tells_apart exact_unsigned x y h) key s.trees.keys is

pub key_held : (s : Seen) (key : ℕ) → Contains (tree_keys s) key → holds_tree s key ≡ true
key_held s key w = list_any-from_Contains (eq_by_cmp_equiv nat_cmp_total) key s.trees.keys w

pub has_held : (s : Seen) (bid : ℕ) → has_tree s bid ≡ holds_tree s (bid_key bid)
unfolding has_tree
has_held s bid = refl
