use Rattle.pst_remains.proofs.OnceLemmas.{decoded_once}
use Rattle.pst_remains.proofs.laws.each_is_decoded_once.Goals as goal

pub returns : goal.returns
returns c = decoded_once
