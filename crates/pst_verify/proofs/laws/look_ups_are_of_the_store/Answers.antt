use Rattle.pst_verify.proofs.LookUpLaws.{look_ups_law}
use Rattle.pst_verify.proofs.laws.look_ups_are_of_the_store.Goals as goal

pub returns : goal.returns
returns c = look_ups_law
