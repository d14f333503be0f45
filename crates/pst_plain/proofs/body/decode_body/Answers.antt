use Rattle.pst_encoding.specs.Codec.{codec_method}
use Rattle.pst_plain.proofs.BodyLemmas.{change_is}
use Rattle.pst_plain.proofs.body.decode_body.Goals as goal

pub returns-clause-change : goal.returns-clause-change
returns-clause-change c =
    change_is (codec_method c.args.codec.now) c.args.bid c.args.body.now c.decode.new.body c.copy_from_slice.new.self c.xor_bytes.new.bytes c.check.result
    c.copy_from_slice.ensures.after c.decode.ensures c.xor_bytes.ensures c.check.ensures
