-- How many rows tables have, as far as they were counted: only what is true is known, and so of each table with the same data.
use Rattle.std.specs.Prelude.{◌≡◌, ℕ, Some, length}
use Rattle.std.specs.BTreeMap.{get}
use Rattle.std.specs.Ordering.{nat_cmp}
use Rattle.pst_block.specs.Block.{bid_key}
use Rattle.pst_block.specs.Table.{Table}
use Rattle.pst_ndb.specs.Roots.{Roots}
use Rattle.pst_tc.specs.Values.{tc_rows}
use Rattle.pst_remembered.specs.declared.row_counts.RowCounts.{RowCounts}

-- each table with this data has so many rows
abbrev pub IsCountOf : Table → ℕ → ℕ → Type 0
IsCountOf t block count = (r : Roots) → bid_key r.bid_data ≡ block → count ≡ length (tc_rows t r)

-- all that is known is true
unfoldable pub AreRowCounts : Table → RowCounts → Type 0
AreRowCounts t c = (block count : ℕ) → get nat_cmp c.tables block ≡ Some count → IsCountOf t block count
