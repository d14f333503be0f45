use Rattle.std.proofs.Common.{◌≡◌, ◌++◌, List, map}
use Rattle.serde_json.specs.Data.{Data}
use Rattle.pst_btree.specs.Nodes.{nodes_left}
use Rattle.pst_btree.specs.Trees.{node_entries}
use Rattle.pst_json.specs.Nodes.{node_data}
use Rattle.pst_json.proofs.nodes.write_entries.Given as goal

-- what stands there, and the nodes that are left, are all
abbrev pub invariant-loop-entry : goal.invariant-loop-entry
invariant-loop-entry g l = record {
  list : (done : List Data) × (g.P.Pen.InList l.fn.pen l.pen l.later done) × (done ++ map node_data (nodes_left l.entry-iterator) ≡ map node_data (node_entries l.tree));
  kept : (base : g.row.P.Denot) → g.P.Pen.Keeps base l.fn.pen → g.P.Pen.Keeps base l.pen;
}
