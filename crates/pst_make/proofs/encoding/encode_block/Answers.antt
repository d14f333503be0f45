use Rattle.pst_encoding.specs.Codec.{codec_method}
use Rattle.pst_make.proofs.EncodeLemmas.{block_encoded}
use Rattle.pst_make.proofs.encoding.encode_block.Goals as goal

pub returns : goal.returns
returns c =
    block_encoded c.args.image.now c.encode_body.new.image c.seal_block.new.image (codec_method c.args.codec.now) c.args.block c.requires c.encode_body.ensures c.seal_block.ensures.sealed c.seal_block.ensures.others
