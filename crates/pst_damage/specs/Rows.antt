-- The faults of the rows of folders' tables. A row names what it lists, and not the table, so a fault is told as it is.
use Rattle.std.specs.Prelude.{ℕ, nat_eq, List, if◌then◌else◌}
use Rattle.pst_fault.specs.Each.{first_of}
use Rattle.pst_page.specs.declared.entry.NodeEntry.{NodeEntry}
use Rattle.pst_block.specs.Table.{Table}
use Rattle.pst_remains.specs.declared.pages.Broken.{Broken}
use Rattle.pst_tc.specs.Values.{tc_rows}
use Rattle.pst_msg.specs.pst_mail.declared.items.Items.{Items}
use Rattle.pst_msg.specs.pst_mail.declared.items.Items.TheVariants.{Subfolders, Messages, Associated}
use Rattle.pst_msg.specs.Broken.{roots_at}
use Rattle.pst_msg.specs.Faults.{Parts, Retelling}
use Rattle.pst_damage.specs.Folder.{row_damage}

abbrev pub as_it_is : Retelling
as_it_is nid f = f

-- what a table lists, by its number
abbrev pub items_with : ℕ → Items
items_with n = if nat_eq n 0 then Subfolders else (if nat_eq n 1 then Messages else Associated)

-- the rows of a table
abbrev pub rows_part : Table → List NodeEntry → List Broken → Parts
rows_part t nodes broken q nid = first_of (row_damage nodes broken (items_with q.1) q.0.0) (tc_rows t (roots_at q nid))
