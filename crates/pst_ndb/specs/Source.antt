-- The entries that a source of nodes has, and those that are left of it.
use Rattle.std.specs.Prelude.{List}
use Rattle.pst_page.specs.declared.entry.NodeEntry.{NodeEntry}
use Rattle.pst_btree.specs.Lists.{nodes_in_list as gathered}
use Rattle.pst_btree.specs.Nodes.{nodes_left}
use Rattle.pst_btree.specs.Trees.{node_entries}
use Rattle.pst_ndb.specs.declared.source.Source.{Source}
use Rattle.pst_ndb.specs.declared.source.Source.TheVariants as source
use Rattle.pst_ndb.specs.declared.source.Rest.{Rest}
use Rattle.pst_ndb.specs.declared.source.Rest.TheVariants as rest

unfoldable pub source_entries : Source → List NodeEntry
source_entries (source.Tree tree) = node_entries tree
source_entries (source.Gathered list) = gathered list

unfoldable pub entries_left : Rest → List NodeEntry
entries_left (rest.Tree nodes) = nodes_left nodes
entries_left (rest.Gathered entries) = entries.now
