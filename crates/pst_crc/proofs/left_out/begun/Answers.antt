use Rattle.pst_crc.proofs.LeftOutLemmas.{begun_rest}
use Rattle.pst_crc.proofs.left_out.begun.Goals as goal

pub returns-clause-others : goal.returns-clause-others
returns-clause-others c = λ j le. begun_rest 2348 c.args.register j le
