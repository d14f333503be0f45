use Rattle.std.proofs.Common.{sym}
use Rattle.pst_plain.proofs.TwinLemmas.{twin_same}
use Rattle.pst_plain.proofs.twin.plain.Goals as goal

pub returns-in-None-clause-twin : goal.returns-in-None-clause-twin
returns-in-None-clause-twin c = twin_same c.args.file.now (rw c.new.ensures.bytes at (sym c.in-None.ensures.method))
