-- The order of keys, as a loop looks at them.
use Rattle.std.proofs.Common.{◌≡◌, ℕ, ◌+◌, ◌<◌, ◌≤◌, true, false, List, [], ◌∷◌, map, Option, Some, None, refl, ◌↔◌}
use Rattle.std.specs.Prelude.{◌&&◌, nat_le}
use Rattle.std.proofs.lemmas.Bool.{le-leb, lt-leb, leb-true, and_parts, and_from}
use Rattle.pst_fault.specs.declared.kind.Kind.TheVariants.{Bth}
use Rattle.pst_fault.specs.Fault.{fault_at}
use Rattle.pst_fault.proofs.FirstLemmas.{guard_then}
use Rattle.pst_btree.specs.Order.{is_below, Rises}
use Rattle.pst_bth.specs.Rows.{row_key}
use Rattle.pst_bth.specs.Fault.{bth_order_fault}

pub rows_order_goes_on : (I : List ℕ) (cb low : ℕ) (high : Option ℕ) (at : ℕ) (rest : List ℕ) → low ≤ row_key I cb at → is_below (row_key I cb at) high ≡ true
    → bth_order_fault I cb low high (at ∷ rest) ≡ bth_order_fault I cb (row_key I cb at + 1) high rest
unfolding bth_order_fault
rows_order_goes_on I cb low high at rest le below = rw (le-leb _ _ le, below) refl

pub rows_order_low : (I : List ℕ) (cb low : ℕ) (high : Option ℕ) (at : ℕ) (rest : List ℕ) → row_key I cb at < low → bth_order_fault I cb low high (at ∷ rest) ≡ Some (fault_at Bth at)
unfolding bth_order_fault
rows_order_low I cb low high at rest lt = rw (lt-leb low (row_key I cb at) lt) refl

pub rows_order_high : (I : List ℕ) (cb low : ℕ) (high : Option ℕ) (at : ℕ) (rest : List ℕ) → low ≤ row_key I cb at → is_below (row_key I cb at) high ≡ false
    → bth_order_fault I cb low high (at ∷ rest) ≡ Some (fault_at Bth at)
unfolding bth_order_fault
rows_order_high I cb low high at rest le below = rw (le-leb _ _ le, below) refl

pub rows_order_done : (I : List ℕ) (cb low : ℕ) (high : Option ℕ) → bth_order_fault I cb low high [] ≡ None
unfolding bth_order_fault
rows_order_done I cb low high = refl

-- ---- the grammar

pub order_law : (I : List ℕ) (cb low : ℕ) (high : Option ℕ) (rows : List ℕ) → Rises low high (map (row_key I cb) rows) ↔ (bth_order_fault I cb low high rows ≡ None)
unfolding bth_order_fault
order_law I cb low high [] = ((λ r. refl), (λ e. tt))
order_law I cb low high (at ∷ rest) = (
  (λ r. let good : (nat_le low (row_key I cb at) && is_below (row_key I cb at) high) ≡ true = and_from _ _ (le-leb _ _ r.0) r.1 in rw good ((order_law I cb (row_key I cb at + 1) high rest).0 r.2)),
  (λ e.
      let t = guard_then _ _ _ e in
      let both = and_parts _ _ t.0 in
      (leb-true _ _ both.0, both.1, (order_law I cb (row_key I cb at + 1) high rest).1 t.1)),
)
