-- What the rows of tables name, as far as it is kept: only what is true is, and so of each table with the same data.
use Rattle.std.specs.Prelude.{◌≡◌, ℕ, Some, List, map}
use Rattle.std.specs.BTreeMap.{get}
use Rattle.std.specs.Global.{Vec}
use Rattle.std.specs.Ordering.{nat_cmp}
use Rattle.pst_block.specs.Block.{bid_key}
use Rattle.pst_block.specs.Table.{Table}
use Rattle.pst_ndb.specs.Roots.{Roots}
use Rattle.pst_tc.specs.Values.{RowParts, tc_rows}
use Rattle.pst_remembered.specs.declared.row_names.RowName.{RowName}
use Rattle.pst_remembered.specs.declared.row_names.RowNames.{RowNames}

-- of a row what it names, and where its record begins
abbrev pub name_of_row : RowParts → RowName
name_of_row x = record { id = x.id; at = x.at }

-- those of all rows of a table
unfoldable pub row_names : Table → Roots → List RowName
row_names t r = map name_of_row (tc_rows t r)

-- the rows of each table with this data name these
abbrev pub AreNamesOf : Table → ℕ → List RowName → Type 0
AreNamesOf t block names = (r : Roots) → bid_key r.bid_data ≡ block → names ≡ row_names t r

-- all that is kept is true
unfoldable pub AreRowNames : Table → RowNames → Type 0
AreRowNames t n = (block : ℕ) (names : Vec RowName) → get nat_cmp n.tables block ≡ Some names → AreNamesOf t block names.items
