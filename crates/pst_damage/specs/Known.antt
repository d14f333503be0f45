-- What is known of the parts of messaging that were looked at is true.
use Rattle.std.specs.Prelude.{List}
use Rattle.pst_page.specs.declared.entry.NodeEntry.{NodeEntry}
use Rattle.pst_block.specs.Table.{Table}
use Rattle.pst_remains.specs.declared.pages.Broken.{Broken}
use Rattle.pst_msg.specs.Checker.{IsCheckerOf}
use Rattle.pst_msg.specs.Faults.{AreFaultsOf}
use Rattle.pst_damage.specs.declared.known.JudgedParts.{JudgedParts}
use Rattle.pst_damage.specs.Listings.{AreListingsTrue}
use Rattle.pst_damage.specs.Rows.{as_it_is, rows_part}

pub record IsKnownOf (t : Table) (nodes : List NodeEntry) (broken : List Broken) (k : JudgedParts) : Type 0 where
  pub contexts : IsCheckerOf t k.contexts
  pub listings : AreListingsTrue t nodes broken k.listings
  pub rows : AreFaultsOf as_it_is (rows_part t nodes broken) k.rows
