use Rattle.pst_plain.proofs.AgainLemmas.{again}
use Rattle.pst_plain.proofs.laws.twin_is_the_file.Goals as goal

pub returns : goal.returns
returns c = again
