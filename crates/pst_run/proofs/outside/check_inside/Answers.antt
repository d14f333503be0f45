use Rattle.pst_bytes.specs.Image.{bytes_of}
use Rattle.pst_run.proofs.OutsideLemmas.{is_inside}
use Rattle.pst_run.proofs.outside.check_inside.Goals as goal

pub returns-in_default-2-clause-inside : goal.returns-in_default-2-clause-inside
returns-in_default-2-clause-inside c = is_inside (bytes_of c.args.image) _ c.in_default.ensures.exact
