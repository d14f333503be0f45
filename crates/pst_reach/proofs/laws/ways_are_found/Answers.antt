use Rattle.pst_reach.proofs.ReachLaws.{reach_law, unreached_law}
use Rattle.pst_reach.proofs.laws.ways_are_found.Goals as goal

pub returns-clause-reached : goal.returns-clause-reached
returns-clause-reached c = reach_law

pub returns-clause-unreached : goal.returns-clause-unreached
returns-clause-unreached c = unreached_law
