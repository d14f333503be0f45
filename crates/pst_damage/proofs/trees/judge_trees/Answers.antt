use Rattle.std.proofs.Common.{refl, sym}
use Rattle.pst_block.specs.Blocks.{table_of}
use Rattle.pst_ndb.specs.Fault.{node_fault}
use Rattle.pst_damage.proofs.JudgedLemmas.{told_next, told_done}
use Rattle.pst_damage.proofs.trees.judge_trees.Goals as goal

pub loop-entry-init : goal.loop-entry-init
loop-entry-init c = record {
  known = c.new-known.ensures (table_of c.args.blocks.now);
  broken = rw c.new-broken.ensures.items refl;
}

pub loop-entry-preserved : goal.loop-entry-preserved
loop-entry-preserved c =
    let part = node_fault (table_of c.args.blocks.now) in
    record {
      known = c.check_trees.ensures.known;
      broken = told_next part _ _ _ c.args.nodes.now c.loop-entry.entry-index _ _ c.loop-entry-test.true (sym (c.in_ok-fault.ensures.exact _ c.check_trees.ensures.exact)) c.in_ok-push_told.ensures c.loop-entry.invariant.broken;
    }

pub returns-clause-broken : goal.returns-clause-broken
returns-clause-broken c = told_done (node_fault (table_of c.args.blocks.now)) _ _ c.args.nodes.now c.loop-entry.entry-index c.loop-entry-test.false c.loop-entry.invariant.broken
