-- What is known of lists is true, and stays so.
use Rattle.std.proofs.Common.{◌≡◌, ℕ, zero, suc, ◌+◌, ◌*◌, ◌<◌, ◌≤◌, true, Option, Some, None, [], Result, Ok, Err, refl, sym, ap, ◌∙◌, arith, ◌⊎◌, inl, inr}
use Rattle.std.specs.Ordering.{nat_cmp, eq_by_cmp}
use Rattle.std.proofs.lemmas.Map.Lookups.{exact_unsigned}
use Rattle.std.specs.List.{Contains}
use Rattle.std.specs.Prelude.{is_some}
use Rattle.std.proofs.lemmas.Cmp.{eq_by_cmp_equiv, nat_cmp_total}
use Rattle.std.proofs.lemmas.Map.Made.{is_some-lookup}
use Rattle.std.proofs.lemmas.Map.Views.{tells_apart, Contains-from_any, list_any-from_Contains}
use Rattle.pst_fault.specs.declared.fault.Fault.{Fault}
use Rattle.std.proofs.lemmas.Bool.{cases_lt}
use Rattle.pst_fault.specs.First.{Tells}
use Rattle.pst_fault.proofs.FirstLemmas.{then_none, then_some, none_then, first_at, first_front}
use Rattle.pst_page.specs.declared.entry.BlockEntry.{BlockEntry}
use Rattle.pst_block.specs.Block.{bid_key}
use Rattle.pst_block.specs.Table.{Table, body_of}
use Rattle.pst_datatree.specs.Seen.{raised}
use Rattle.pst_subnode.specs.declared.heights.Heights.{Heights}
use Rattle.pst_subnode.specs.List.{list_fault}
use Rattle.pst_subnode.specs.Tree.{nesting, sub_fault, sub_height}
use Rattle.pst_subnode.specs.declared.ranges.Ranges.{Ranges}
use Rattle.pst_subnode.specs.Ranges.{AreRangesTrue}
use Rattle.pst_subnode.specs.Heights.{list_keys, state_at, state_of, AreTrue, AreAlike, NoNewMarks, AreHeightsTrue}
use Rattle.pst_subnode.specs.Marks.{at_list, at_leaf, at_leaves, IsSiList, rank_of, LeadsTo, HaveCome}
use Rattle.pst_datatree.specs.List.{count_in}
use Rattle.pst_subnode.specs.Body.{leaf_bid_in}
use Rattle.pst_subnode.proofs.LeafLemmas.{si_fault}
use Rattle.pst_subnode.proofs.SubLemmas.{sub_fault_below}
use Rattle.pst_subnode.proofs.HeightLemmas.{list_or_deep, depth_law, height_same, fits_yes, fits_no}
use Rattle.pst_subnode.proofs.HeightLaws.{height_of_same}
use Rattle.pst_subnode.proofs.MarkLemmas.{IsPut, IsSame, put_cases, fault_same, rank_same, rank_one, come_on, mark_come, marked_nests}

-- ---- what is known stays true

pub begin_true : (t : Table) (old new : Heights) (bid : ℕ) → IsPut old new bid (Some 0) → new.ranges ≡ old.ranges → AreTrue t old → AreTrue t new
begin_true t old new bid put ranges are = record {
  ranges = rw ranges are.ranges;
  holds = λ q height more known.
      elim (put_cases old new bid (Some 0) q put) [
        | inl key ↦ let mark : Some height ≡ Some 0 = sym known ∙ key.1 in let is : height ≡ 0 = cc in absurd (omega (arith, is))
        | inr same ↦ are.holds q height more (sym same ∙ known)
      ];
}

pub same_true : (t : Table) (old new : Heights) → IsSame old new → AreRangesTrue t new.ranges → AreTrue t old → AreTrue t new
same_true t old new same ranges are = record { ranges = ranges; holds = λ q height more known. are.holds q height more (sym (same (bid_key q)) ∙ known) }

-- after the check of a list's own blocks, which changes no height and no mark
pub alike_same : (old new : Heights) → AreAlike old new → IsSame old new
unfolding state_at
alike_same old new alike key = rw alike.states refl

pub alike_marks : (old new : Heights) → AreAlike old new → NoNewMarks old new
alike_marks old new alike q marked = sym (alike_same old new alike (bid_key q)) ∙ marked

-- other ranges of SLBLOCKs are known
pub ranges_true : (t : Table) (h : Heights) (ranges : Ranges) → AreRangesTrue t ranges → AreTrue t h → AreTrue t (record { states = h.states; expansions = h.expansions; ranges = ranges })
unfolding state_at
ranges_true t h ranges true_of are = record { ranges = true_of; holds = are.holds }

pub forget_true : (t : Table) (old new : Heights) (bid : ℕ) → IsPut old new bid None → new.ranges ≡ old.ranges → AreTrue t old → AreTrue t new
forget_true t old new bid put ranges are = record {
  ranges = rw ranges are.ranges;
  holds = λ q height more known.
      elim (put_cases old new bid None q put) [
        | inl key ↦ let bad : Some height ≡ None = sym known ∙ key.1 in cc
        | inr same ↦ are.holds q height more (sym same ∙ known)
      ];
}

-- a height is put in
pub settle_true : (t : Table) (old new : Heights) (bid limit height : ℕ) → list_fault t bid ≡ None → sub_fault t limit bid ≡ None → sub_height t limit bid ≡ height → IsPut old new bid (Some height) → new.ranges ≡ old.ranges → AreTrue t old → AreTrue t new
settle_true t old new bid limit height list none is put ranges are = record {
  ranges = rw ranges are.ranges;
  holds = λ q other more known.
      elim (put_cases old new bid (Some height) q put) [
        | inl key ↦
            let both : Some other ≡ Some height = sym known ∙ key.1 in
            let same : other ≡ height = cc in
            (limit, sym (fault_same t limit bid q key.0 list) ∙ none, sym (height_of_same t limit bid q key.0) ∙ (is ∙ sym same))
        | inr same ↦ are.holds q other more (sym same ∙ known)
      ];
}

pub known_height : (t : Table) (h : Heights) (bid height limit : ℕ) → AreTrue t h → state_of h bid ≡ Some height → 0 < height → height ≤ limit → (sub_fault t limit bid ≡ None) × (height ≡ sub_height t limit bid)
known_height t h bid height limit are known more le =
    let w = are.holds bid height more known in
    let none : sub_fault t limit bid ≡ None = depth_law t w.0 limit bid w.1 ∙ fits_yes _ limit (omega (arith, w.2)) in
    (none, sym w.2 ∙ height_same t w.0 limit bid w.1 none)

pub known_high : (t : Table) (h : Heights) (bid height limit : ℕ) → AreTrue t h → state_of h bid ≡ Some height → 0 < height → limit < height → sub_fault t limit bid ≡ Some nesting
known_high t h bid height limit are known more lt =
    let w = are.holds bid height more known in
    depth_law t w.0 limit bid w.1 ∙ fits_no _ limit (omega (arith, w.2))

-- nothing is known
pub nothing_known : (t : Table) (h : Heights) → h.states.entries ≡ [] → AreRangesTrue t h.ranges → AreHeightsTrue t h
unfolding state_at
nothing_known t h empty ranges = record {
  heights = record { ranges = ranges; holds = λ bid height more known. let bad : None ≡ Some height = (rw empty at known) in cc };
  unmarked = λ bid marked. let bad : None ≡ Some 0 = (rw empty at marked) in cc;
}

-- what is known tells what the walk afresh would
pub known_tells : (t : Table) (h : Heights) (bid height rank limit : ℕ) (r : Result ℕ Fault) → rank_of t bid ≤ rank → AreTrue t h → HaveCome t h (at_list t bid) rank limit → state_of h bid ≡ Some height → (height ≡ 0 → r ≡ Err nesting) → (0 < height → height ≤ limit → r ≡ Ok height) → (limit < height → r ≡ Err nesting) → Tells r (sub_fault t limit bid) (sub_height t limit bid)
known_tells t h bid height rank limit r low are come known marked fits high =
    elim (cases_lt 0 height) [
      | inl more ↦
          elim (cases_lt limit height) [
            | inl lt ↦ rw (high lt) (inr (known_high t h bid height limit are known more lt))
            | inr le ↦ rw (fits more le) (known_height t h bid height limit are known more le)
          ]
      | inr least ↦ let mark : height ≡ 0 = omega arith in rw (marked mark) (inr (marked_nests t h bid rank limit low come (rw mark at known)))
    ]

-- ---- into an SIBLOCK, whose SLBLOCKs are lists of their own

-- the same place, after a walk that left no mark
pub same_place : (t : Table) (old new : Heights) (place : ℕ → Option Fault) (rank limit : ℕ) → NoNewMarks old new → HaveCome t old place rank limit → HaveCome t new place rank limit
same_place t old new place rank limit marks come = record { from = λ bid marked. come.from bid (marks bid marked) }

pub to_leaves : (t : Table) (old new : Heights) (limit bid : ℕ) (e : BlockEntry) → 0 < limit → IsSiList t bid e → IsPut old new bid (Some 0) → HaveCome t old (at_list t bid) 1 limit → HaveCome t new (at_leaves t e (count_in (body_of t e))) 0 limit
to_leaves t old new limit bid e room is put come =
    mark_come t old new (at_list t bid) (at_leaves t e (count_in (body_of t e))) 1 limit 0 limit bid (omega arith) put own goes come
  where
    goes : (k : ℕ) → k ≤ limit → (at_list t bid k ≡ Some nesting) ⊎ ((l : ℕ) × (2 * l + 0 ≤ 2 * k + 1) × (l ≤ limit) × ((f : Fault) → at_leaves t e (count_in (body_of t e)) l ≡ Some f → at_list t bid k ≡ Some f))
    goes zero le = inl (sub_fault_below t 0 bid refl is.is_list.named)
    goes (suc k) le = inr (suc k, omega arith, le, (λ f at. si_fault t bid e (suc k) k is (omega arith) ∙ at))

    own : (q : ℕ) → bid_key bid ≡ bid_key q → LeadsTo t q limit (at_leaves t e (count_in (body_of t e))) 0 limit
    own q key zero le = inl (sym (fault_same t 0 bid q key is.is_list.list) ∙ sub_fault_below t 0 bid refl is.is_list.named)
    own q key (suc low) le =
        inr (suc low, omega (arith, rank_same t bid q key, rank_one t bid e is), le, (λ f at. sym (fault_same t (suc low) bid q key is.is_list.list) ∙ (si_fault t bid e (suc low) low is (omega arith) ∙ at)))

leaves_or_deep : (t : Table) (e : BlockEntry) (limit k i : ℕ) → at_leaves t e i limit ≡ None → (at_leaves t e i k ≡ None) ⊎ (at_leaves t e i k ≡ Some nesting)
leaves_or_deep t e limit k zero none = inl refl
leaves_or_deep t e limit k (suc i) none =
    let p = none_then (at_leaves t e i limit) (at_leaf t e limit i) none in
    elim (leaves_or_deep t e limit k i p.0) [
      | inr nests ↦ inr (then_some _ _ nesting nests)
      | inl also ↦
          elim (list_or_deep t limit k (leaf_bid_in (body_of t e) i) p.1) [
            | inl one ↦ inl (then_none _ _ also ∙ one)
            | inr nests ↦ inr (then_none _ _ also ∙ nests)
          ]
    ]

pub to_leaf : (t : Table) (h : Heights) (limit count i : ℕ) (e : BlockEntry) → at_leaves t e i limit ≡ None → i < count → HaveCome t h (at_leaves t e count) 0 limit → HaveCome t h (at_list t (leaf_bid_in (body_of t e) i)) 0 limit
to_leaf t h limit count i e before lt come =
    come_on t h h (at_leaves t e count) (at_list t (leaf_bid_in (body_of t e) i)) 0 limit 0 limit (λ q marked. marked) (omega arith)
    (λ k le. elim (leaves_or_deep t e limit k i before) [
      | inl none ↦ inr (k, omega arith, le, (λ f at. first_at (at_leaf t e k) count i f none at lt))
      | inr nests ↦ inl (first_front (at_leaf t e k) count i nesting nests (omega (arith, lt)))
    ]) come

-- ---- counts

pub new_counted : (count old new next : ℕ) → new ≡ old + 1 → next ≡ raised count 1 → count ≡ raised old 0 → next ≡ raised new 0
new_counted count old new next more one is = omega (arith, more, one, is)

pub old_counted : (count old new : ℕ) → new ≡ old + 0 → count ≡ raised old 0 → count ≡ raised new 0
old_counted count old new same is = omega (arith, same, is)

-- ---- keys

pub nothing_at : (h : Heights) → h.states.entries ≡ [] → (key : ℕ) → state_at h key ≡ None
unfolding state_at
nothing_at h empty key = rw empty refl

pub state_key : (h : Heights) (key state : ℕ) → state_at h key ≡ Some state → Contains (list_keys h) key
unfolding state_at
state_key h key state is =
    Contains-from_any (λ x y e. tells_apart exact_unsigned x y e) key (list_keys h) (sym (is_some-lookup (eq_by_cmp nat_cmp key) h.states.entries) ∙ ap is_some is)

pub key_state : (h : Heights) (key : ℕ) → Contains (list_keys h) key → (state : ℕ) × (state_at h key ≡ Some state)
unfolding state_at
key_state h key w =
    by_option (state_at h key) (is_some-lookup (eq_by_cmp nat_cmp key) h.states.entries ∙ list_any-from_Contains (eq_by_cmp_equiv nat_cmp_total) key (list_keys h) w)
  where
    by_option : (o : Option ℕ) → is_some o ≡ true → (state : ℕ) × (o ≡ Some state)
    by_option None is = cc
    by_option (Some n) is = (n, refl)
