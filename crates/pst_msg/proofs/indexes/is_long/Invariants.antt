use Rattle.std.proofs.Common.{◌≡◌, ◌+◌, ◌≤◌, length}
use Rattle.pst_subnode.specs.Left.{subs_left}
use Rattle.pst_subnode.specs.List.{subs_of}
use Rattle.pst_ndb.specs.Views.{table_of_node, sub_bid_of}
use Rattle.pst_msg.specs.declared.indexes.TheConstants.{FEW}
use Rattle.pst_msg.proofs.indexes.is_long.Given as goal

-- so many were passed
abbrev pub invariant-loop-sub : goal.invariant-loop-sub
invariant-loop-sub l = record {
  passed : l.count + length (subs_left l.sub-iterator) ≡ length (subs_of (table_of_node l.fn.node) (sub_bid_of l.fn.node));
  few : l.count ≤ FEW;
}
