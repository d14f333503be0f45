use Rattle.pst_remains.proofs.TwinLemmas.{decoded_first, decoded_whole_law}
use Rattle.pst_remains.proofs.laws.decoded_is_the_twin.Goals as goal

pub returns-clause-first : goal.returns-clause-first
returns-clause-first c = decoded_first

pub returns-clause-whole : goal.returns-clause-whole
returns-clause-whole c = decoded_whole_law
