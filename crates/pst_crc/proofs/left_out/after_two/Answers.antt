use Rattle.std.specs.Prelude.{slice_index}
use Rattle.pst_crc.proofs.Kept.{two_words}
use Rattle.pst_crc.proofs.left_out.after_two.Goals as goal

pub returns : goal.returns
returns c = rw (c.of_last.ensures, c.from.ensures, c.pair.ensures) (two_words c.args.register c.args.i (slice_index c.args.words.now))
