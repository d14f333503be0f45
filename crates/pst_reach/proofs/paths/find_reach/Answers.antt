use Rattle.std.proofs.Common.{rules, sym}
use Rattle.pst_reach.proofs.paths.find_reach.Goals as goal

pub returns-in-Ok : goal.returns-in-Ok
returns-in-Ok c = sym (c.in-Ok.ensures.found.found _ (search rules))
