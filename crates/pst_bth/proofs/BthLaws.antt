-- The grammar of a BTH, and its first fault and records, say the same.
use Rattle.std.proofs.Common.{◌≡◌, ℕ, List, [], ◌∷◌, map, None, refl, ap, ◌∙◌, inl, inr, ◌↔◌}
use Rattle.std.proofs.lemmas.Bool.{eq-eqb, ne_eqb, cases_eq}
use Rattle.pst_bytes.specs.declared.span.Span.{Span}
use Rattle.pst_btree.specs.Order.{Rises}
use Rattle.pst_fault.proofs.FirstLemmas.{none_then, both_none, holds_or_none, holds_or_true}
use Rattle.pst_fault.proofs.EachLemmas.{there_is}
use Rattle.pst_heap.specs.Fault.{no_item}
use Rattle.pst_heap.specs.Values.{HeapData, item_of}
use Rattle.pst_bth.specs.declared.sizes.Sizes.{Sizes}
use Rattle.pst_bth.specs.Rows.{row_key}
use Rattle.pst_bth.specs.Values.{levels_in, root_place, root_in, header_rows, record_key, record_at, bth_records}
use Rattle.pst_bth.specs.Fault.{bth_root_fault, bth_header_fault, bth_fault}
use Rattle.pst_bth.specs.Grammar.{IsBthRoot}
use Rattle.pst_bth.specs.Laws.{BthLaw, BthNameLaw, BthRiseLaw}
use Rattle.pst_bth.proofs.BthLemmas.{header_root}
use Rattle.pst_bth.proofs.TreeLaws.{bth_tree_law, tree_rises}

bth_root_law : (h : HeapData) (z : Sizes) (s : Span) (rows : List ℕ) → IsBthRoot h z s rows ↔ ((bth_root_fault h z s ≡ None) × (rows ≡ header_rows h z s))
unfolding bth_root_fault header_rows
bth_root_law h z s rows =
    let law = bth_tree_law h z (levels_in h.image s) (root_place s) 0 None rows in
    elim (cases_eq (root_in h.image s) 0) [
      | inl e ↦ (
        (λ w. elim w [ inl a ↦ (rw (eq-eqb _ _ e) refl, rw (eq-eqb _ _ e) a.1) | inr b ↦ absurd (b.0 e) ]),
        (λ w. inl (e, (rw (eq-eqb _ _ e) at w.1))),
      )
      | inr n ↦ (
        (λ w. elim w [ inl a ↦ absurd (n a.0) | inr b ↦ let l = law.0 b.1 in (rw (ne_eqb _ _ n) l.0, rw (ne_eqb _ _ n) l.1) ]),
        (λ w. inr (n, law.1 ((rw (ne_eqb _ _ n) at w.0), (rw (ne_eqb _ _ n) at w.1)))),
      )
    ]

pub bth_law : BthLaw
unfolding bth_fault bth_records bth_header_fault
bth_law h z named hid records = (
  (λ w.
      let root = (bth_root_law h z w.0 w.3.0).0 w.3.1 in
      (rw w.1 (both_none _ _ (holds_or_true _ _ w.2) root.0), rw w.1 (w.3.2 ∙ ap (map (record_at h.image z)) root.1))),
  (λ w.
      let t = there_is (no_item named) (bth_header_fault h z) (item_of h hid) w.0 in
      let b = none_then _ _ t.2 in
      let is : records ≡ map (record_at h.image z) (header_rows h z t.0) = (rw t.1 at w.1) in
      (t.0, t.1, holds_or_none _ _ b.0, (header_rows h z t.0, (bth_root_law h z t.0 (header_rows h z t.0)).1 (b.1, refl), is))),
)

pub name_law : BthNameLaw
unfolding bth_fault
name_law h z named other hid e =
    let t = there_is (no_item named) (bth_header_fault h z) (item_of h hid) e in
    rw t.1 t.2

-- ---- keys

pub keys_are : (I : List ℕ) (z : Sizes) (rows : List ℕ) → map record_key (map (record_at I z) rows) ≡ map (row_key I z.key) rows
keys_are I z [] = refl
keys_are I z (at ∷ rest) = ap (λ (ks : List ℕ). row_key I z.key at ∷ ks) (keys_are I z rest)

pub header_rises : (h : HeapData) (z : Sizes) (s : Span) → bth_header_fault h z s ≡ None → Rises 0 None (map (row_key h.image z.key) (header_rows h z s))
unfolding bth_root_fault header_rows
header_rises h z s e =
    let root : bth_root_fault h z s ≡ None = header_root h z s e in
    elim (cases_eq (root_in h.image s) 0) [
      | inl a ↦ rw (eq-eqb _ _ a) tt
      | inr n ↦ rw (ne_eqb _ _ n) (tree_rises h z (levels_in h.image s) (root_place s) 0 None (rw (ne_eqb _ _ n) at root))
    ]

pub rise_law : BthRiseLaw
unfolding bth_fault bth_records
rise_law h z named hid e =
    let t = there_is (no_item named) (bth_header_fault h z) (item_of h hid) e in
    rw (t.1, keys_are h.image z (header_rows h z t.0)) (header_rises h z t.0 t.2)
