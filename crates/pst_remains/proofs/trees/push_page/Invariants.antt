use Rattle.std.proofs.Common.{◌≡◌, ◌++◌, map}
use Rattle.pst_bytes.specs.Image.{bytes_of}
use Rattle.pst_page.specs.Entry.{node_entry_at}
use Rattle.pst_page.specs.Page.{entries_at, entries_from}
use Rattle.pst_remains.proofs.trees.push_page.Given as goal

abbrev pub invariant-loop-i : goal.invariant-loop-i
invariant-loop-i l = l.nodes.items ++ map (node_entry_at (bytes_of l.page.image)) (entries_from (bytes_of l.page.image) l.page.bref.ib l.i) ≡ l.fn.nodes.items ++ map (node_entry_at (bytes_of l.page.image)) (entries_at (bytes_of l.page.image) l.page.bref.ib)
