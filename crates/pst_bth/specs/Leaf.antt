-- The first leaf of a tree that has a record from a key on.
use Rattle.std.specs.Prelude.{◌≡◌, ℕ, ◌-◌, ◌<◌, ◌≤◌, List, [], ◌++◌, Option, Some, None}
use Rattle.pst_bytes.specs.declared.span.Span.{Span}
use Rattle.pst_bth.specs.declared.leaf.Leaf.{Leaf}
use Rattle.pst_bth.specs.Rows.{row_key, row_count, row_place, rows_at, rows_from}
use Rattle.pst_bth.specs.Find.{rows_from_key}

-- the records of an item from a key on: those from record `first` on
pub record BeginsAt (I : List ℕ) (cb size : ℕ) (s : Span) (low first : ℕ) : Type 0 where
  pub there : first < row_count size s
  pub last : low ≤ row_key I cb (row_place size s (row_count size s - 1))
  pub here : rows_from_key I cb low (rows_at size s) ≡ rows_from size s first

-- of an item: where its records from a key on begin, none where it has none
abbrev pub FirstFrom : List ℕ → ℕ → ℕ → Span → ℕ → Option ℕ → Type 0
FirstFrom I cb size s low None = rows_from_key I cb low (rows_at size s) ≡ []
FirstFrom I cb size s low (Some first) = BeginsAt I cb size s low first

-- a leaf among the records of a tree; what stands before it has lower keys
pub record HasLeaf (I : List ℕ) (cb size low : ℕ) (leaf : Leaf) (rows : List ℕ) : Type 0 where
  pub begins : BeginsAt I cb size leaf.item low leaf.first
  pub before : List ℕ
  pub after : List ℕ
  pub parts : rows ≡ before ++ (rows_at size leaf.item ++ after)
  pub lower : rows_from_key I cb low before ≡ []

-- of a tree: its first leaf with a record from a key on, none where there is none
abbrev pub LeafFrom : List ℕ → ℕ → ℕ → ℕ → List ℕ → Option Leaf → Type 0
LeafFrom I cb size low rows None = rows_from_key I cb low rows ≡ []
LeafFrom I cb size low rows (Some leaf) = HasLeaf I cb size low leaf rows
