use Rattle.std.proofs.Common.{◌∙◌}
use Rattle.pst_bytes.specs.Image.{bytes_of}
use Rattle.pst_header.specs.Header.{end_of}
use Rattle.pst_remains.proofs.BlockLemmas.{leaves_next, leaves_done}
use Rattle.pst_remains.proofs.blocks.sort_blocks.Goals as goal

pub loop-ib-preserved : goal.loop-ib-preserved
loop-ib-preserved c = record {
  left = leaves_next (end_of c.args.header.now) (bytes_of c.args.image) _ _ _ c.args.leaves.now c.loop-ib.ib-index _ c.loop-ib-test.true c.in_ok-enter_leaf.ensures.left c.loop-ib.invariant.left;
  same = c.in_ok-enter_leaf.ensures.same ∙ c.loop-ib.invariant.same;
}

pub returns-clause-left : goal.returns-clause-left
returns-clause-left c = leaves_done (end_of c.args.header.now) (bytes_of c.args.image) _ _ c.args.leaves.now c.loop-ib.ib-index c.loop-ib-test.false c.loop-ib.invariant.left
