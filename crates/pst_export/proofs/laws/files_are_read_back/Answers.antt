use Rattle.pst_export.proofs.StorableLaws.{read_back_law, storable_law}
use Rattle.pst_export.proofs.laws.files_are_read_back.Goals as goal

pub returns-clause-storable : goal.returns-clause-storable
returns-clause-storable c = storable_law

pub returns-clause-read : goal.returns-clause-read
returns-clause-read c = read_back_law
