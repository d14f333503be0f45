use Rattle.std.proofs.Common.{length, arith}
use Rattle.pst_encoding.specs.Codec.{codec_method}
use Rattle.pst_plain.proofs.StepLemmas.{body_inside, body_made}
use Rattle.pst_plain.proofs.body.decode_block.Goals as goal

pub decode_span-change-requires-clause-inside : goal.decode_span-change-requires-clause-inside
decode_span-change-requires-clause-inside c = rw c.body_span-span.ensures (body_inside (length c.args.file.now) c.args.entry c.requires.inside)

pub returns-clause-file : goal.returns-clause-file
returns-clause-file c = body_made c.args.file.now c.decode_span-change.new.file c.carry.new.file (codec_method c.args.codec.now) c.args.entry c.body_span-span.result _ c.decode_span-change.result
    c.body_span-span.ensures (omega (arith, c.block_size.ensures.value)) c.decode_span-change.ensures.file c.decode_span-change.ensures.change c.carry.ensures
