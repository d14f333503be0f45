use Rattle.pst_make.proofs.EncodeLemmas.{header_encoded}
use Rattle.pst_make.proofs.encoding.encode_header.Goals as goal

pub returns : goal.returns
returns c =
    header_encoded c.args.image.now c.put8.new.image c.seal_header.new.image c.args.method c.number.result c.number.ensures c.put8.ensures.value c.put8.ensures.others
    c.seal_header.ensures.sealed c.seal_header.ensures.others
