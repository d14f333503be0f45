use Rattle.std.proofs.Common.{rules}
use Rattle.pst_run.proofs.Loading.{all_read}
use Rattle.pst_run.proofs.input.fill.Goals as goal

pub returns-in-Ok-eq0-clause-whole : goal.returns-in-Ok-eq0-clause-whole
returns-in-Ok-eq0-clause-whole g c =
    let read = c.in-Ok-eq0.ensures.bytes in
    all_read _ _ _ _ _ c.in-Ok-eq0.field-0 c.loop-reads.invariant.taken (search rules) read (search rules)
