use Rattle.std.proofs.Common.{sym, ◌∙◌}
use Rattle.pst_subnode.proofs.EntryLemmas.{last_removed, rest_removed}
use Rattle.pst_subnode.proofs.states.States.remove.Goals as goal

pub returns-then-is_last : goal.returns-then-is_last
returns-then-is_last c q =
    rw (← c.self.view_is) (last_removed c.self.inside.last c.self.inside.rest.entries c.args.key q (sym c.is_last.ensures ∙ c.if-is_last.true) c.self.invariant.apart)

pub returns : goal.returns
returns c q =
    rw (← c.self.view_is) (rest_removed c.self.inside.last c.self.inside.rest.entries c.remove.new.self.entries c.args.key q (sym c.is_last.ensures ∙ c.if-is_last.false) (c.remove.ensures.updates.0 q))
