use Rattle.pst_plain.proofs.LawLemmas.{carried_law, trailer_law, full_check_law}
use Rattle.pst_plain.proofs.laws.check_values_stay.Goals as goal

pub returns-clause-carried : goal.returns-clause-carried
returns-clause-carried c = carried_law

pub returns-clause-trailers : goal.returns-clause-trailers
returns-clause-trailers c = trailer_law

pub returns-clause-header : goal.returns-clause-header
returns-clause-header c = full_check_law
