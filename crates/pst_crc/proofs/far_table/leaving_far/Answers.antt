use Rattle.pst_crc.proofs.Rule.{far_rule}
use Rattle.pst_crc.proofs.far_table.leaving_far.Goals as goal

pub returns : goal.returns
returns c = far_rule c.args.k c.args.byte _ c.requires c.ranges.byte.fits
