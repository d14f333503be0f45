-- What a contract sees of a row matrix.
use Rattle.std.specs.Prelude.{◌≡◌, ℕ, ⊤, List, Option, None}
use Rattle.std.specs.Coded.{Unit-prop}
use Rattle.std.proofs.Props.{props}
use Rattle.pst_bytes.specs.declared.span.Span.{Span}
use Rattle.pst_bytes.specs.Image.{IsInside}
use Rattle.pst_block.specs.Table.{Table}
use Rattle.pst_ndb.specs.Roots.{Roots}
use Rattle.pst_ndb.specs.Views.{table_of_node}
use Rattle.pst_tc.specs.declared.matrix.Matrix.{Matrix}
use Rattle.pst_tc.specs.declared.matrix.Matrix.TheVariants.{Nothing, Item, Blocks}
use Rattle.pst_tc.specs.Blocks.{blocks_node, matrix_spans}
use Rattle.pst_tc.specs.Values.{row_of_span, row_of_blocks, row_of_matrix}

-- the row with a number, of rows of so many bytes
abbrev pub matrix_row : Matrix → ℕ → ℕ → Option Span
matrix_row Nothing size n = None
matrix_row (Item s) size n = row_of_span size n s
matrix_row (Blocks b) size n = row_of_blocks size n (matrix_spans b)

-- it lies in the file with these bytes
abbrev pub LiesIn : List ℕ → Matrix → Type 0
LiesIn I Nothing = ⊤
LiesIn I (Item s) = IsInside I s
LiesIn I (Blocks b) = (table_of_node (blocks_node b)).image ≡ I

-- it has the rows of the matrix that an HNID names
abbrev pub HasRowsOf : Table → Roots → ℕ → Matrix → Type 0
HasRowsOf t r hnid m = (size n : ℕ) → matrix_row m size n ≡ row_of_matrix t r hnid size n

-- ---- either has one proof, so a view may keep it

pub LiesIn-prop : (I : List ℕ) (m : Matrix) → IsProp (LiesIn I m)
LiesIn-prop I Nothing = Unit-prop
LiesIn-prop I (Item s) = hlevel props
LiesIn-prop I (Blocks b) = hlevel props

pub HasRowsOf-prop : (t : Table) (r : Roots) (hnid : ℕ) (m : Matrix) → IsProp (HasRowsOf t r hnid m)
HasRowsOf-prop t r hnid m = hlevel props
