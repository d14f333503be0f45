use Rattle.pst_space.proofs.ApartLemmas.{apart_law, flags_law}
use Rattle.pst_space.proofs.laws.claims_are_apart.Goals as goal

pub returns-clause-apart : goal.returns-clause-apart
returns-clause-apart c = apart_law

pub returns-clause-flags : goal.returns-clause-flags
returns-clause-flags c = flags_law
