use Rattle.std.proofs.Common.{refl}
use Rattle.pst_time.specs.Time.{digits, date_text, clock_text}
use Rattle.pst_time.proofs.time.moment_bytes.Goals as goal

pub returns : goal.returns
unfolding digits date_text clock_text
returns c = rw (c.copy_from_slice-2.ensures.after, c.copy_from_slice.ensures.after, c.date_bytes.ensures, c.clock_bytes.ensures) refl
