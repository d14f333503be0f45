use Rattle.std.proofs.Common.{◌∙◌}
use Rattle.pst_header.specs.Header.{end_of}
use Rattle.pst_plain.proofs.BlockLemmas.{data_next, data_stopped, data_done, inside_next}
use Rattle.pst_plain.proofs.blocks.placed_data.Goals as goal

pub returns-then-not-claim_block-clause-blocks : goal.returns-then-not-claim_block-clause-blocks
returns-then-not-claim_block-clause-blocks c =
    data_stopped (end_of c.args.header.now) c.loop-entry.entry-index c.loop-entry.claims c.args.entries.now c.loop-entry.found.items _ _ c.loop-entry-test.true c.if-not-claim_block.ensures.refused c.loop-entry.invariant.all

pub loop-entry-preserved : goal.loop-entry-preserved
loop-entry-preserved c = record {
  same = c.claim_block.ensures.same ∙ c.loop-entry.invariant.same;
  all = data_next (end_of c.args.header.now) c.loop-entry.entry-index c.loop-entry.claims c.claim_block.new.claims c.args.entries.now c.loop-entry.found.items c.add_data.new.found.items _ _
      c.loop-entry-test.true c.if-not-claim_block.ensures.made c.in_ok-add_data.ensures c.loop-entry.invariant.all;
  inside = inside_next (end_of c.args.header.now) c.loop-entry.found.items c.add_data.new.found.items _ c.if-not-claim_block.ensures.inside c.in_ok-add_data.ensures c.loop-entry.invariant.inside;
}

pub returns-clause-blocks : goal.returns-clause-blocks
returns-clause-blocks c =
    data_done (end_of c.args.header.now) c.loop-entry.entry-index c.loop-entry.claims c.args.entries.now c.loop-entry.found.items _ c.loop-entry-test.false c.loop-entry.invariant.all
