use Rattle.std.proofs.Common.{◌∙◌, arith}
use Rattle.pst_encoding.specs.Codec.{codec_method}
use Rattle.pst_make.proofs.EncodeLemmas.{encoded_same, data_next, data_done}
use Rattle.pst_make.proofs.encoding.encode_blocks.Goals as goal

pub loop-block-preserved : goal.loop-block-preserved
loop-block-preserved c = record {
  same = encoded_same _ _ _ _ c.encode_data.ensures ∙ c.loop-block.invariant.same;
  done = λ new left. c.loop-block.invariant.done new (data_next (codec_method c.args.codec.now) c.args.blocks.now c.loop-block.block-index _ c.place.result c.loop-block.image c.encode_data.new.image new
      c.loop-block-test.true c.place.ensures c.encode_data.ensures left);
}

pub returns-clause-done : goal.returns-clause-done
returns-clause-done c =
    c.loop-block.invariant.done c.loop-block.image (data_done (codec_method c.args.codec.now) c.args.blocks.now c.loop-block.block-index c.loop-block.image (omega (arith, c.loop-block-test.false)))
