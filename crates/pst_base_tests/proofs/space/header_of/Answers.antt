use Rattle.std.proofs.Common.{◌-◌, arith}
use Rattle.pst_base_tests.proofs.space.header_of.Goals as goal

pub returns : goal.returns
returns c = (c.args.regions - 1, omega arith, omega arith, λ _. omega arith)
