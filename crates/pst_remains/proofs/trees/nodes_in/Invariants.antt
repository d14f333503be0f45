use Rattle.std.proofs.Common.{◌≡◌, ◌++◌, map, drop}
use Rattle.pst_bytes.specs.Image.{bytes_of}
use Rattle.pst_page.specs.Entry.{node_entry_at}
use Rattle.pst_remains.specs.Pages.{leaf_entries}
use Rattle.pst_remains.proofs.trees.nodes_in.Given as goal

abbrev pub invariant-loop-ib : goal.invariant-loop-ib
invariant-loop-ib l = l.nodes.items ++ map (node_entry_at (bytes_of l.image)) (leaf_entries (bytes_of l.image) (drop l.ib-index l.leaves)) ≡ map (node_entry_at (bytes_of l.image)) (leaf_entries (bytes_of l.image) l.leaves)
