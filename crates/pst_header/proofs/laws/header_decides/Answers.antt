use Rattle.pst_header.proofs.Head.{header_law}
use Rattle.pst_header.proofs.laws.header_decides.Goals as goal

pub returns : goal.returns
returns c = header_law
