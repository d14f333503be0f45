-- Entries have room in their page.
use Rattle.std.proofs.Common.{◌≡◌, ℕ, zero, suc, ◌*◌, ◌<◌, ◌≤◌, arith}
use Rattle.pst_make.specs.declared.pages.Tree.{Tree}
use Rattle.pst_make.specs.declared.pages.Tree.TheVariants.{Nodes, Blocks}
use Rattle.pst_make.specs.Pages.{capacity_of, entry_size_of}

place_below : (tree : Tree) (level i n : ℕ) → i < n → n ≤ capacity_of tree level → i * entry_size_of tree level ≤ 456
place_below Nodes zero i n below room = omega arith
place_below Nodes (suc level) i n below room = omega arith
place_below Blocks level i n below room = omega arith

pub entry_place : (tree : Tree) (level i n size : ℕ) → i < n → n ≤ capacity_of tree level → size ≡ entry_size_of tree level → i * size ≤ 456
entry_place tree level i n size below room is = rw is (place_below tree level i n below room)
