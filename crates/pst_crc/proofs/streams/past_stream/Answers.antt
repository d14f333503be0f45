use Rattle.std.proofs.Common.{sym}
use Rattle.pst_crc.proofs.Words.{far_is}
use Rattle.pst_crc.proofs.streams.past_stream.Goals as goal

pub returns : goal.returns
returns c =
    rw (c.lowest_far.ensures, c.lowest_far-2.ensures, c.lowest_far-3.ensures, c.lowest_far-4.ensures)
    (sym (far_is c.args.register c.ranges.register.fits))
