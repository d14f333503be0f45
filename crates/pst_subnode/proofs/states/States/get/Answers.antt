use Rattle.std.proofs.Common.{sym, ◌∙◌}
use Rattle.pst_subnode.proofs.EntryLemmas.{at_last, none_at_last}
use Rattle.pst_subnode.proofs.states.States.get.Goals as goal

pub returns-in-Some : goal.returns-in-Some
returns-in-Some c = rw (← c.self.view_is) (sym (at_last c.self.inside.last c.self.inside.rest.entries c.args.key c.in-Some.state (sym c.last_state.ensures ∙ c.in-Some.is)))

pub returns-in-None : goal.returns-in-None
returns-in-None c = rw (← c.self.view_is) (c.state_in_rest.ensures ∙ sym (none_at_last c.self.inside.last c.self.inside.rest.entries c.args.key (sym c.last_state.ensures ∙ c.in-None.is)))
