-- What is known of page maps, and the first fault of a heap by what is looked at before them.
use Rattle.std.proofs.Common.{◌≡◌, ℕ, ◌<◌, Bool, true, false, Option, Some, None, refl, sym, ap, ◌∙◌, inl, inr}
use Rattle.std.specs.Prelude.{cond, option_map, slice_get}
use Rattle.std.specs.Ordering.{nat_cmp, eq_by_cmp}
use Rattle.std.specs.BTreeMap.{get, is_at, IsEmpty, IsUnchanged}
use Rattle.std.specs.BTreeSet.{contains}
use Rattle.std.specs.BTreeSet.{IsEmpty as HasNone}
use Rattle.std.proofs.lemmas.Map.Lookups.{exact_unsigned}
use Rattle.std.proofs.lemmas.Map.Views.{tells_apart}
use Rattle.pst_fault.specs.declared.fault.Fault.{Fault}
use Rattle.pst_fault.specs.First.{◌then◌, first_below, IsFirst}
use Rattle.pst_fault.specs.Each.{first_of}
use Rattle.pst_fault.proofs.FirstLemmas.{first_at, both_none, then_assoc}
use Rattle.pst_fault.proofs.EachLemmas.{first_join}
use Rattle.pst_fault.proofs.ToldLemmas.{told_none, told_some, told_first}
use Rattle.pst_datatree.specs.Parts.{part_count, part_in, part_spans, HasParts}
use Rattle.pst_datatree.proofs.SeenLemmas.{only_new}
use Rattle.pst_ndb.specs.pst_block.Table.{Table}
use Rattle.pst_heap.specs.declared.check.TheConstants.{SPANS}
use Rattle.pst_heap.specs.declared.maps.PageMaps.{PageMaps}
use Rattle.pst_heap.specs.Values.{HeapData}
use Rattle.pst_heap.specs.Fault.{extra_fault, front_fault, page_map_fault, heap_fault}
use Rattle.pst_heap.specs.PageMaps.{page_maps_fault, broken_of, knows_maps, AreMapsTrue, start_fault}

-- ---- what is remembered

-- nothing is known
pub nothing_true : (t : Table) (m : PageMaps) → HasNone m.trees → IsEmpty m.broken → AreMapsTrue t m
unfolding knows_maps broken_of
nothing_true t m trees broken = record {
  holds = λ bid known. let bad : false ≡ true = (rw trees at known) in cc;
  broken = λ bid f known. let bad : None ≡ Some f = (rw broken at known) in absurd cc;
}

-- one more is known
pub put_true : (t : Table) (old new : PageMaps) (bid : ℕ) → ((q : ℕ) → contains nat_cmp new.trees q ≡ cond (is_at (nat_cmp bid) q) true (contains nat_cmp old.trees q)) → new.broken ≡ old.broken → page_maps_fault t bid ≡ None → AreMapsTrue t old → AreMapsTrue t new
unfolding knows_maps broken_of
put_true t old new bid more same none true_of = record { holds = each; broken = λ q f known. true_of.broken q f (rw same at known) }
  where
    each : (q : ℕ) → contains nat_cmp new.trees q ≡ true → page_maps_fault t q ≡ None
    each q known = elim (only_new old.trees new.trees bid more q known) [ inl was ↦ true_of.holds q was | inr same ↦ rw (← same) none ]

-- one fault more
pub broken_put : (t : Table) (old new : PageMaps) (bid : ℕ) (f : Fault) → ((q : ℕ) → get nat_cmp new.broken q ≡ cond (eq_by_cmp nat_cmp bid q) (Some f) (get nat_cmp old.broken q)) → new.trees ≡ old.trees → page_maps_fault t bid ≡ Some f → AreMapsTrue t old → AreMapsTrue t new
unfolding knows_maps broken_of
broken_put t old new bid f put same is true_of = record {
  holds = λ q known. true_of.holds q (rw same at known);
  broken = λ q g known. by_test q g (eq_by_cmp nat_cmp bid q) refl (sym (put q) ∙ known);
}
  where
    by_test : (q : ℕ) (g : Fault) (v : Bool) → eq_by_cmp nat_cmp bid q ≡ v → cond v (Some f) (get nat_cmp old.broken q) ≡ Some g → page_maps_fault t q ≡ Some g
    by_test q g true here found =
        let one : f ≡ g = cc in
        let key : bid ≡ q = tells_apart exact_unsigned bid q here in
        rw (← one, ← key) is
    by_test q g false here found = true_of.broken q g found

-- memory was refused, and the same is remembered
pub broken_same : (t : Table) (old new : PageMaps) → IsUnchanged old.broken new.broken → new.trees ≡ old.trees → AreMapsTrue t old → AreMapsTrue t new
unfolding knows_maps broken_of
broken_same t old new broken same true_of = record {
  holds = λ q known. true_of.holds q (rw same at known);
  broken = λ q f known. true_of.broken q f (rw broken at known);
}

-- ---- the spans of parts

-- the page maps of a data tree are those of its parts
maps_of_parts : (t : Table) (bid : ℕ) → HasParts t bid → page_maps_fault t bid ≡ first_below (λ i. page_maps_fault t (part_in t bid i)) (part_count t bid)
maps_of_parts t bid joined = ap (first_of (page_map_fault t.image)) joined ∙ first_join (page_map_fault t.image) (part_spans t bid) (part_count t bid)

pub parts_done : (t : Table) (bid n : ℕ) → HasParts t bid → n ≡ part_count t bid → first_below (λ i. page_maps_fault t (part_in t bid i)) n ≡ None → page_maps_fault t bid ≡ None
parts_done t bid n joined is none = maps_of_parts t bid joined ∙ (rw is at none)

pub part_fails : (g : Fault → Fault) (t : Table) (bid n i : ℕ) (f : Fault) → HasParts t bid → n ≡ part_count t bid → i < n → first_below (λ j. page_maps_fault t (part_in t bid j)) i ≡ None → IsFirst (option_map g (page_maps_fault t (part_in t bid i))) f → IsFirst (option_map g (page_maps_fault t bid)) f
part_fails g t bid n i f joined is lt none (inl out) = inl out
part_fails g t bid n i f joined is lt none (inr e) =
    let part : ℕ → Option Fault = λ j. page_maps_fault t (part_in t bid j) in
    let w = told_some g (part i) f e in
    let all : page_maps_fault t bid ≡ Some w.0 = maps_of_parts t bid joined ∙ first_at part (part_count t bid) i w.0 none w.1 (rw is at lt) in
    inr (ap (option_map g) all ∙ ap (λ x. Some x) w.2)

-- ---- a heap by what comes before its page maps

heap_in_two : (h : HeapData) → heap_fault h ≡ (start_fault h then first_of (page_map_fault h.image) h.spans)
unfolding heap_fault
heap_in_two h = then_assoc (extra_fault (slice_get h.spans SPANS)) (front_fault h.image h.spans) (first_of (page_map_fault h.image) h.spans)

pub start_fails : (g : Fault → Fault) (h : HeapData) (f : Fault) → option_map g (start_fault h) ≡ Some f → option_map g (heap_fault h) ≡ Some f
start_fails g h f e = ap (option_map g) (heap_in_two h) ∙ told_first g (start_fault h) _ f e

pub maps_fail : (g : Fault → Fault) (h : HeapData) (f : Fault) → start_fault h ≡ None → IsFirst (option_map g (first_of (page_map_fault h.image) h.spans)) f → IsFirst (option_map g (heap_fault h)) f
maps_fail g h f start (inl out) = inl out
maps_fail g h f start (inr e) =
    inr (ap (option_map g) (heap_in_two h) ∙ ap (λ o. option_map g (o then first_of (page_map_fault h.image) h.spans)) start ∙ e)

pub heap_sound : (g : Fault → Fault) (h : HeapData) → start_fault h ≡ None → option_map g (first_of (page_map_fault h.image) h.spans) ≡ None → heap_fault h ≡ None
heap_sound g h start maps = heap_in_two h ∙ both_none (start_fault h) _ start (told_none g _ maps)
