use Rattle.pst_text.proofs.LaneLemmas.{low_ok, seconds}
use Rattle.pst_text.proofs.digits.second_digits.Goals as goal

pub swizzle : goal.swizzle
swizzle c = low_ok c.args.bytes c.fits-bytes

pub returns : goal.returns
returns c = seconds c.args.bytes c.fits-bytes
