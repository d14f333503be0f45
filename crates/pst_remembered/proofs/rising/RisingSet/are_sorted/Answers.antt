use Rattle.pst_remembered.proofs.RisingLemmas.{sorted_with_run}
use Rattle.pst_remembered.proofs.rising.RisingSet.are_sorted.Goals as goal

pub returns : goal.returns
returns g c = rw (← c.self.view_is) (sorted_with_run g.K.Ord.cmp g.met.K.Ord.total c.self.inside.run.items c.self.inside.rest.keys c.self.invariant.ordered)
