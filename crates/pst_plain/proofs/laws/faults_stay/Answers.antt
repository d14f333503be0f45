use Rattle.pst_plain.proofs.FaultLemmas.{front_law}
use Rattle.pst_plain.proofs.LaterLemmas.{later_law}
use Rattle.pst_plain.proofs.HeaderLemmas.{header_law}
use Rattle.pst_plain.proofs.laws.faults_stay.Goals as goal

pub returns-clause-header : goal.returns-clause-header
returns-clause-header c = header_law

pub returns-clause-front : goal.returns-clause-front
returns-clause-front c = front_law

pub returns-clause-later : goal.returns-clause-later
returns-clause-later c = later_law
