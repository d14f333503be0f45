use Rattle.std.specs.Prelude.{bit_xor}
use Rattle.pst_crc.proofs.Words.{words_are}
use Rattle.pst_crc.proofs.after_words.Goals as goal

pub returns : goal.returns
returns c = rw (c.of_first.ensures, c.of_last.ensures, c.from.ensures) (words_are (bit_xor c.args.register c.args.low) c.args.high)
