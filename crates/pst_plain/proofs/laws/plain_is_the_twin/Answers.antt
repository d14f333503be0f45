use Rattle.pst_plain.proofs.EncodedLemmas.{encoded_law}
use Rattle.pst_plain.proofs.laws.plain_is_the_twin.Goals as goal

pub returns : goal.returns
returns c = encoded_law
