use Rattle.std.proofs.Common.{sym}
use Rattle.pst_crc.proofs.Words.{word_is}
use Rattle.pst_crc.proofs.of_last.Goals as goal

pub returns : goal.returns
returns c =
    rw (c.lowest.ensures, c.lowest-2.ensures, c.lowest-3.ensures, c.lowest-4.ensures, c.lowest-5.ensures, c.lowest-6.ensures, c.lowest-7.ensures, c.lowest-8.ensures)
    (sym (word_is c.args.word c.ranges.word.fits))
