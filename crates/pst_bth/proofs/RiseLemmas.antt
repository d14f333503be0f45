-- The keys of all records rise.
use Rattle.std.proofs.Common.{◌≡◌, ℕ, ◌+◌, List, [], ◌∷◌, map, Option, Some, None, arith, le_refl}
use Rattle.std.proofs.lemmas.List.{map-append, append-nil}
use Rattle.pst_btree.specs.Order.{Rises}
use Rattle.pst_btree.proofs.RiseLemmas.{lower, rises_join}
use Rattle.pst_fault.proofs.FirstLemmas.{none_then}
use Rattle.pst_bth.specs.Rows.{row_key}
use Rattle.pst_bth.specs.Fault.{BthVisit, bth_children_fault}
use Rattle.pst_bth.specs.Values.{rows_below}

module _ (I : List ℕ) (cb : ℕ) (visit : BthVisit) (below : ℕ → List ℕ) (rises : (named low : ℕ) (high : Option ℕ) → visit named low high ≡ None → Rises low high (map (row_key I cb) (below named))) where
  pub rows_rise : (low : ℕ) (high : Option ℕ) (ats : List ℕ) → Rises low high (map (row_key I cb) ats) → bth_children_fault I cb visit high ats ≡ None → Rises low high (map (row_key I cb) (rows_below below cb ats))
  unfolding bth_children_fault rows_below
  rows_rise low high [] r e = tt
  rows_rise low high (at ∷ []) r e =
      let b = none_then _ _ e in
      rw (map-append (row_key I cb) (below (at + cb)) [], append-nil (map (row_key I cb) (below (at + cb)))) (lower (row_key I cb at) low high _ r.0 (rises (at + cb) (row_key I cb at) high b.0))
  rows_rise low high (at ∷ next ∷ rest) r e =
      let b = none_then _ _ e in
      rw (map-append (row_key I cb) (below (at + cb)) (rows_below below cb (next ∷ rest)))
      (lower (row_key I cb at) low high _ r.0
      (rises_join (row_key I cb at) (row_key I cb next) high _ _ (omega (arith, r.2.0)) r.2.1
      (rises (at + cb) (row_key I cb at) (Some (row_key I cb next)) b.0)
      (rows_rise (row_key I cb next) high (next ∷ rest) (le_refl (row_key I cb next), r.2.1, r.2.2) b.1)))
