-- Which nodes are sought among others.
use Rattle.std.specs.Prelude.{ℕ, Bool}
use Rattle.pst_store.specs.pst_msg.Values.{is_folder, is_message}
use Rattle.pst_intact.specs.declared.sought.Sought.{Sought}
use Rattle.pst_intact.specs.declared.sought.Sought.TheVariants.{Folders, Messages}

abbrev pub kind_sought : Sought → ℕ → Bool
kind_sought Folders nid = is_folder nid
kind_sought Messages nid = is_message nid
