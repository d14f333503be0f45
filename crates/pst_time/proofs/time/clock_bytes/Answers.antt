use Rattle.std.proofs.Common.{refl}
use Rattle.pst_time.specs.Time.{digits, clock_text}
use Rattle.pst_time.proofs.time.clock_bytes.Goals as goal

pub returns : goal.returns
unfolding digits clock_text
returns c = rw (c.two_digits.ensures, c.two_digits-2.ensures, c.two_digits-3.ensures, c.seven_digits.ensures) refl
