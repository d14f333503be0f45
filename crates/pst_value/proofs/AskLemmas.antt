-- What a context asks of the list of subnodes of its node.
use Rattle.std.proofs.Common.{◌≡◌, ℕ, Bool, true, false, List, [], ◌∷◌, Option, Some, None, refl, sym, ap, ◌∙◌}
use Rattle.std.specs.Prelude.{◌&&◌, option_map}
use Rattle.std.specs.Ordering.{nat_cmp, ordering_then, match_ordering}
use Rattle.std.specs.declared.cmp.Ordering.{Ordering}
use Rattle.std.specs.declared.cmp.Ordering.TheVariants.{Less, Equal, Greater}
use Rattle.std.specs.BTreeSet.{insert_key, keys}
use Rattle.std.proofs.lemmas.Bool.{false≢true}
use Rattle.std.proofs.lemmas.Map.Lookups.{CmpEqualImpliesEq, exact_unsigned, exact_pairs}
use Rattle.pst_bytes.specs.declared.span.Span.{Span}
use Rattle.pst_bytes.specs.Image.{num}
use Rattle.pst_fault.specs.declared.fault.Fault.{Fault}
use Rattle.pst_fault.specs.Each.{first_of, there_or}
use Rattle.pst_fault.proofs.FirstLemmas.{holds_or_true, both_none}
use Rattle.pst_block.specs.Table.{Table}
use Rattle.pst_datatree.proofs.KeyLemmas.{data_spans_same}
use Rattle.pst_ndb.specs.Roots.{Roots, subnode_of}
use Rattle.pst_heap.specs.Values.{HeapData, heap_at, item_of}
use Rattle.pst_value.specs.declared.asks.Asks.{Asks}
use Rattle.pst_value.specs.declared.hnid.Hnid.TheVariants.{Nothing, Item, Subnode}
use Rattle.pst_value.specs.Hnid.{hnid_of}
use Rattle.pst_value.specs.Values.{held_of, one_span, node_spans, hnid_spans}
use Rattle.pst_value.specs.Fault.{missing_at, length_fault, hnid_fault, value_fault}
use Rattle.pst_value.specs.Asks.{SameData, fits, is_fitting, all_fit, has_matrix}
use Rattle.pst_value.specs.Met.{are_met, AsksMore, HoldsWith}
use Rattle.pst_value.proofs.AlikeLaws.{heap_with}
use Rattle.pst_value.proofs.ValueLaws.{place_law}

-- ---- the heap is the same

pub same_heap : (t : Table) (r s : Roots) → SameData r s → heap_at t r ≡ heap_at t s
same_heap t r s e = ap (heap_with t.image) (data_spans_same t r.bid_data s.bid_data e)

-- ---- a value, by where it lies: in the raw span

pub held_holds : (t : Table) (s : Roots) (kind place width : ℕ) (raw : Span) → held_of kind raw.len ≡ Some width → value_fault t s kind place raw ≡ None
unfolding value_fault
held_holds t s kind place width raw e = rw e refl

-- where the same spans are named

same_fault : (t : Table) (r s : Roots) (kind : ℕ) (raw : Span) → held_of kind raw.len ≡ None → hnid_spans t r (num t.image raw.at 4) ≡ hnid_spans t s (num t.image raw.at 4) → value_fault t r kind 0 raw ≡ value_fault t s kind 0 raw
unfolding value_fault hnid_fault
same_fault t r s kind raw none same = rw none (ap (there_or (missing_at raw.at (num t.image raw.at 4)) (length_fault kind 0)) same)

with_spans : (t : Table) (r s : Roots) (kind place : ℕ) (raw : Span) → held_of kind raw.len ≡ None → hnid_spans t r (num t.image raw.at 4) ≡ hnid_spans t s (num t.image raw.at 4)
    → value_fault t r kind 0 raw ≡ None → value_fault t s kind place raw ≡ None
with_spans t r s kind place raw none same sound = place_law t s kind 0 place raw (sym (same_fault t r s kind raw none same) ∙ sound)

-- nothing is named

pub spans_nowhere : (t : Table) (r s : Roots) (hnid : ℕ) → hnid_of hnid ≡ Nothing → hnid_spans t r hnid ≡ hnid_spans t s hnid
unfolding hnid_spans
spans_nowhere t r s hnid is = rw is refl

pub nothing_holds : (t : Table) (r s : Roots) (kind place : ℕ) (raw : Span) → held_of kind raw.len ≡ None → hnid_of (num t.image raw.at 4) ≡ Nothing → value_fault t r kind 0 raw ≡ None → value_fault t s kind place raw ≡ None
nothing_holds t r s kind place raw none is sound = with_spans t r s kind place raw none (spans_nowhere t r s (num t.image raw.at 4) is) sound

-- an item of the heap

pub spans_in_item : (t : Table) (r s : Roots) (hnid hid : ℕ) → SameData r s → hnid_of hnid ≡ Item hid → hnid_spans t r hnid ≡ hnid_spans t s hnid
unfolding hnid_spans
spans_in_item t r s hnid hid e is = rw is (ap (λ (h : HeapData). option_map one_span (item_of h hid)) (same_heap t r s e))

pub item_holds : (t : Table) (r s : Roots) (kind place hid : ℕ) (raw : Span) → SameData r s → held_of kind raw.len ≡ None → hnid_of (num t.image raw.at 4) ≡ Item hid → value_fault t r kind 0 raw ≡ None → value_fault t s kind place raw ≡ None
item_holds t r s kind place hid raw e none is sound = with_spans t r s kind place raw none (spans_in_item t r s (num t.image raw.at 4) hid e is) sound

-- a subnode, which is asked for

fitting_none : (t : Table) (kind place : ℕ) (missing : Fault) (o : Option Roots) → fits t kind o ≡ true → there_or missing (length_fault kind place) (option_map (node_spans t) o) ≡ None
fitting_none t kind place missing None fit = absurd (false≢true fit)
fitting_none t kind place missing (Some s) fit = holds_or_true _ _ fit

pub subnode_holds : (t : Table) (s : Roots) (kind place nid : ℕ) (raw : Span) → held_of kind raw.len ≡ None → hnid_of (num t.image raw.at 4) ≡ Subnode nid → is_fitting t s (nid, kind) ≡ true → value_fault t s kind place raw ≡ None
unfolding value_fault hnid_fault hnid_spans is_fitting
subnode_holds t s kind place nid raw none is fit = rw (none, is) (fitting_none t kind place _ (subnode_of t s nid) fit)

-- ---- one more is asked for

abbrev pub pair_cmp : (ℕ × ℕ) → (ℕ × ℕ) → Ordering
pair_cmp x y = ordering_then (nat_cmp x.0 y.0) (nat_cmp x.1 y.1)

pairs_exact : CmpEqualImpliesEq pair_cmp
pairs_exact = exact_pairs nat_cmp nat_cmp exact_unsigned exact_unsigned

and_left : (a b : Bool) → (a && b) ≡ true → a ≡ true
and_left true b e = refl
and_left false b e = e

and_right : (a b : Bool) → (a && b) ≡ true → b ≡ true
and_right true b e = e
and_right false b e = absurd (false≢true e)

and_both : (a b : Bool) → a ≡ true → b ≡ true → (a && b) ≡ true
and_both a b e h = rw (e, h) refl

abbrev Both : Table → Roots → List (ℕ × ℕ) → (ℕ × ℕ) → Type 0
Both t s ks k = (is_fitting t s k ≡ true) × (all_fit t s ks ≡ true)

inserted_fit : (t : Table) (s : Roots) (ks : List (ℕ × ℕ)) (k : ℕ × ℕ) → all_fit t s (insert_key pair_cmp ks k) ≡ true → Both t s ks k
inserted_fit t s [] k fit = (and_left _ _ fit, refl)
inserted_fit t s (x ∷ xs) k fit = by (pair_cmp k x) refl (inserted_fit t s xs k) fit
  where
    by : (r : Ordering) → pair_cmp k x ≡ r → (all_fit t s (insert_key pair_cmp xs k) ≡ true → Both t s xs k)
        → all_fit t s (match_ordering r (k ∷ x ∷ xs) (x ∷ xs) (x ∷ insert_key pair_cmp xs k)) ≡ true → Both t s (x ∷ xs) k
    by Less e later all = (and_left _ _ all, and_right _ _ all)
    by Equal e later all = (rw (pairs_exact k x e) (and_left _ _ all), all)
    by Greater e later all = let rest = later (and_right _ _ all) in (rest.0, and_both _ _ (and_left _ _ all) rest.1)

pub put_fits : (t : Table) (s : Roots) (old new : Asks) (k : ℕ × ℕ) → keys new.values ≡ insert_key pair_cmp (keys old.values) k → new.matrix ≡ old.matrix → are_met t s new ≡ true
    → (are_met t s old ≡ true) × (is_fitting t s k ≡ true)
unfolding are_met
put_fits t s old new k is same met =
    let both : Both t s (keys old.values) k = inserted_fit t s (keys old.values) k (sym (ap (all_fit t s) is) ∙ and_right (has_matrix t s new.matrix) (all_fit t s (keys new.values)) met) in
    (and_both _ _ (sym (ap (has_matrix t s) same) ∙ and_left (has_matrix t s new.matrix) (all_fit t s (keys new.values)) met) both.1, both.0)

-- ---- parts that are gone through one after another

-- under such roots no part of all has a fault, where none of those that are left has one
abbrev pub HoldsLeft : Table → Roots → Asks → (Roots → ℕ × Span → Option Fault) → List (ℕ × Span) → List (ℕ × Span) → Type 0
HoldsLeft t r asks part all left = (s : Roots) → SameData r s → are_met t s asks ≡ true → first_of (part s) left ≡ None → first_of (part s) all ≡ None

pub left_next : (t : Table) (r : Roots) (old new : Asks) (part : Roots → ℕ × Span → Option Fault) (all xs rest : List (ℕ × Span)) (x : ℕ × Span) → HoldsLeft t r old part all xs → xs ≡ x ∷ rest
    → AsksMore old new → HoldsWith t r new (λ s. part s x) → HoldsLeft t r new part all rest
unfolding first_of
left_next t r old new part all xs rest x left is more holds = λ s e met none. left s e (more t s met) (rw is (both_none (part s x) (first_of (part s) rest) (holds s e met) none))

pub left_done : (t : Table) (r : Roots) (asks : Asks) (part : Roots → ℕ × Span → Option Fault) (all xs : List (ℕ × Span)) → HoldsLeft t r asks part all xs → xs ≡ [] → HoldsWith t r asks (λ s. first_of (part s) all)
unfolding first_of
left_done t r asks part all xs left is = λ s e met. left s e met (rw is refl)
