use Rattle.std.proofs.Common.{◌∙◌, arith}
use Rattle.pst_encoding.specs.Codec.{codec_method}
use Rattle.pst_plain.proofs.StepLemmas.{decoded_next, decoded_done, counted_next, counted_done, data_few}
use Rattle.pst_plain.proofs.body.decode_data.Goals as goal

pub loop-entry-preserved : goal.loop-entry-preserved
loop-entry-preserved c = record {
  room = c.decode_if_data-blocks.ensures.room ∙ c.loop-entry.invariant.room;
  all = decoded_next (codec_method c.args.codec.now) c.args.entries.now c.loop-entry.entry-index _ c.loop-entry.file c.decode_if_data-blocks.new.file _ c.loop-entry-test.true c.decode_if_data-blocks.ensures.file c.loop-entry.invariant.all;
  count = counted_next c.args.entries.now c.loop-entry.entry-index _ _ _ _ c.loop-entry-test.true c.decode_if_data-blocks.ensures.count c.loop-entry.invariant.count;
}

pub returns-clause-file : goal.returns-clause-file
returns-clause-file c = decoded_done (codec_method c.args.codec.now) c.args.entries.now c.loop-entry.entry-index c.loop-entry.file _ c.loop-entry-test.false c.loop-entry.invariant.all

pub returns-clause-count : goal.returns-clause-count
returns-clause-count c = counted_done c.args.entries.now c.loop-entry.entry-index _ _ c.loop-entry-test.false c.loop-entry.invariant.count

pub overflow_add-blocks : goal.overflow_add-blocks
overflow_add-blocks c =
    let next = counted_next c.args.entries.now c.loop-entry.entry-index _ _ _ _ c.loop-entry-test.true c.decode_if_data-blocks.ensures.count c.loop-entry.invariant.count in
    omega (arith, next, data_few c.args.entries.now)
