-- What is left of the records of a BTH.
use Rattle.std.proofs.Common.{◌≡◌, ℕ, ◌+◌, ◌-◌, List, [], ◌∷◌, ◌++◌, None, refl, sym, ap, ◌∙◌, arith}
use Rattle.std.proofs.Math.Nat.{zero-div}
use Rattle.std.proofs.lemmas.Bool.{le-leb}
use Rattle.pst_bytes.specs.declared.span.Span.{Span}
use Rattle.pst_heap.specs.Values.{HeapData}
use Rattle.pst_bth.specs.declared.sizes.Sizes.{Sizes}
use Rattle.pst_bth.specs.declared.leaf.Leaf.{Leaf}
use Rattle.pst_bth.specs.Rows.{row_key, row_count, row_place, rows_from}
use Rattle.pst_bth.specs.Rows.{leaf_size}
use Rattle.pst_bth.specs.Values.{header_rows}
use Rattle.pst_bth.specs.Fault.{bth_header_fault}
use Rattle.pst_bth.specs.Find.{rows_from_key}
use Rattle.pst_bth.specs.Leaf.{HasLeaf}
use Rattle.pst_bth.proofs.RowLemmas.{rows_end}
use Rattle.pst_bth.proofs.RestLemmas.{rest_leaf}
use Rattle.pst_bth.proofs.BthLaws.{header_rises}

-- ---- before the first record

no_rows : (size : ℕ) → row_count size (record { at = 0; len = 0 }) ≡ 0
unfolding row_count
no_rows size = zero-div size

rest_zero : (I : List ℕ) (cb : ℕ) (rows : List ℕ) → rows_from_key I cb 0 rows ≡ rows
rest_zero I cb [] = refl
rest_zero I cb (x ∷ xs) = rw (le-leb 0 (row_key I cb x) (omega arith)) (ap (λ (zs : List ℕ). x ∷ zs) (rest_zero I cb xs))

pub records_start : (I : List ℕ) (cb size : ℕ) (rows : List ℕ) → rows_from size (record { at = 0; len = 0 }) 0 ++ rows_from_key I cb 0 rows ≡ rows
records_start I cb size rows = ap (λ (xs : List ℕ). xs ++ rows_from_key I cb 0 rows) (rows_end size (record { at = 0; len = 0 }) 0 (let e = no_rows size in omega (arith, e))) ∙ rest_zero I cb rows

-- ---- behind a leaf

pub records_leaf : (h : HeapData) (z : Sizes) (head : Span) (low last : ℕ) (leaf : Leaf) → bth_header_fault h z head ≡ None → HasLeaf h.image z.key (leaf_size z) low leaf (header_rows h z head)
    → last ≡ row_key h.image z.key (row_place (leaf_size z) leaf.item (row_count (leaf_size z) leaf.item - 1))
    → rows_from (leaf_size z) leaf.item leaf.first ++ rows_from_key h.image z.key (last + 1) (header_rows h z head) ≡ rows_from_key h.image z.key low (header_rows h z head)
records_leaf h z head low last leaf none has is =
    let there = has.begins.there in
    rw is
    (sym
    (rest_leaf h.image z.key (leaf_size z) leaf.item low 0 None leaf.first (header_rows h z head) has.before has.after (header_rises h z head none) has.parts has.lower has.begins.here (omega (arith, there)) has.begins.last))
