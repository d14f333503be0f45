use Rattle.pst_text.proofs.LaneLemmas.{high_ok, firsts}
use Rattle.pst_text.proofs.digits.first_digits.Goals as goal

pub swizzle : goal.swizzle
swizzle c = high_ok c.args.bytes c.fits-bytes

pub returns : goal.returns
returns c = firsts c.args.bytes c.fits-bytes
