use Rattle.pst_subnode.proofs.EntryLemmas.{with_last_rises}
use Rattle.pst_subnode.proofs.states.States.keys_rise.Goals as goal

pub returns : goal.returns
returns c = rw (← c.self.view_is) (with_last_rises c.self.inside.last c.self.inside.rest.entries c.len-count.ensures.ordered)
