-- What an iterator over the nodes has left.
use Rattle.std.specs.Prelude.{List, map}
use Rattle.pst_page.specs.declared.kind.PageKind.TheVariants.{Nbt}
use Rattle.pst_page.specs.declared.entry.NodeEntry.{NodeEntry}
use Rattle.pst_page.specs.Entry.{node_entry_at}
use Rattle.pst_btree.specs.declared.nodes.Nodes.{Nodes}
use Rattle.pst_btree.specs.Find.{rest_from}
use Rattle.pst_btree.specs.View.{tree_parts, bytes_of_view, entries}

-- the entries whose keys are at least the next one
abbrev pub nodes_left : Nodes → List NodeEntry
nodes_left nodes =
    let tree = tree_parts nodes.view in
    map (node_entry_at (bytes_of_view tree)) (rest_from Nbt (bytes_of_view tree) nodes.low (entries tree))
