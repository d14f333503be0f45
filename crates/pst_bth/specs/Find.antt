-- Look-ups among records, each by its place.
use Rattle.std.specs.Prelude.{◌≡◌, ℕ, ◌-◌, ◌<◌, ◌≤◌, nat_le, filter, List, map, Option, None}
use Rattle.pst_btree.specs.Order.{Rises}
use Rattle.pst_bytes.specs.declared.span.Span.{Span}
use Rattle.pst_heap.specs.Values.{HeapData}
use Rattle.pst_bth.specs.declared.sizes.Sizes.{Sizes}
use Rattle.pst_bth.specs.Rows.{row_key, row_count, row_place}
use Rattle.pst_bth.specs.Fault.{bth_tree_fault}

-- the records whose keys are at least low
abbrev pub rows_from_key : List ℕ → ℕ → ℕ → List ℕ → List ℕ
rows_from_key I cb low rows = filter (λ at. nat_le low (row_key I cb at)) rows

-- how many records of an item have a key of at most this one, where keys rise
pub record IsUpToKey (I : List ℕ) (cb size : ℕ) (s : Span) (key n : ℕ) : Type 0 where
  pub within : n ≤ row_count size s
  pub before : 0 < n → row_key I cb (row_place size s (n - 1)) ≤ key
  pub after : n < row_count size s → key < row_key I cb (row_place size s n)

-- the item that is named at a place, and all below it, have no fault under some bounds
pub record HasBthTree (h : HeapData) (z : Sizes) (level named : ℕ) : Type 0 where
  pub low : ℕ
  pub high : Option ℕ
  pub none : bth_tree_fault h z level named low high ≡ None

-- keys rise, within some bounds
pub record AreRising (I : List ℕ) (cb : ℕ) (rows : List ℕ) : Type 0 where
  pub low : ℕ
  pub high : Option ℕ
  pub rise : Rises low high (map (row_key I cb) rows)
