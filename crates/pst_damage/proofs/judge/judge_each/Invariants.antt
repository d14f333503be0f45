use Rattle.std.proofs.Common.{◌≡◌, ◌++◌, drop}
use Rattle.pst_ndb.specs.Fault.{node_fault}
use Rattle.pst_damage.specs.Judged.{broken_by}
use Rattle.pst_damage.specs.Known.{IsKnownOf}
use Rattle.pst_damage.specs.Left.{left_table, left_nodes, left_pages}
use Rattle.pst_damage.specs.Nodes.{node_damage}
use Rattle.pst_damage.proofs.judge.judge_each.Given as goal

-- what is told so far, and what is left of the nodes
abbrev pub invariant-loop-entry : goal.invariant-loop-entry
invariant-loop-entry l =
    let part = node_damage (left_table l.left) (left_nodes l.left) (left_pages l.left) in
    record {
      known : IsKnownOf (left_table l.left) (left_nodes l.left) (left_pages l.left) l.known;
      own : drop l.next l.left.own.now ≡ broken_by (node_fault (left_table l.left)) (drop l.entry-index l.entry-items);
      items : l.entry-items ≡ left_nodes l.left;
      told : l.told.items ++ broken_by part (drop l.entry-index l.entry-items) ≡ broken_by part (left_nodes l.left);
    }
