use Rattle.pst_encoding.proofs.PairLemmas.{two_decoded}
use Rattle.pst_encoding.proofs.pairs.decode_two.Goals as goal

pub returns : goal.returns
returns c = two_decoded c.args.bytes.now c.entry-pair.result c.requires.two c.entry-pair.ensures.low c.entry-pair.ensures.high
