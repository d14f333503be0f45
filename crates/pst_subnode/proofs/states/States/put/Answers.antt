use Rattle.std.proofs.Common.{sym, ◌∙◌}
use Rattle.pst_subnode.proofs.EntryLemmas.{last_put, last_put_count, rest_put, rest_put_count, rest_put_kept}
use Rattle.pst_subnode.proofs.states.States.put.Goals as goal

pub returns-then-is_last-clause-put : goal.returns-then-is_last-clause-put
returns-then-is_last-clause-put c q =
    rw (← c.self.view_is) (last_put c.self.inside.last c.self.inside.rest.entries c.args.key c.args.state q (sym c.is_last.ensures ∙ c.if-is_last.true))

pub returns-then-is_last-clause-count : goal.returns-then-is_last-clause-count
returns-then-is_last-clause-count c =
    rw (← c.self.view_is) (last_put_count c.self.inside.last c.self.inside.rest.entries c.args.key c.args.state (sym c.is_last.ensures ∙ c.if-is_last.true) c.self.invariant.apart)

pub invariant_of-self-2 : goal.invariant_of-self-2
invariant_of-self-2 c =
    rest_put_kept c.self.inside.last c.self.inside.rest.entries c.put_in_rest.new.rest.entries c.args.key c.args.state c.self.inside.top c.put_in_rest.new.top (sym c.is_last.ensures ∙ c.if-is_last.false) c.self.invariant c.in_ok-is_new.ensures.put c.put_in_rest.ensures.up_to

pub returns-clause-put : goal.returns-clause-put
returns-clause-put c q =
    rw (c.in_ok-is_new.ensures.put, ← c.self.view_is) (rest_put c.self.inside.last c.self.inside.rest.entries c.args.key c.args.state q (sym c.is_last.ensures ∙ c.if-is_last.false))

pub returns-clause-count : goal.returns-clause-count
returns-clause-count c =
    rw (c.in_ok-is_new.ensures.put, ← c.self.view_is) (rest_put_count c.self.inside.last c.self.inside.rest.entries c.args.key c.args.state _ (sym c.is_last.ensures ∙ c.if-is_last.false) c.self.invariant.apart (rw c.in_ok-is_new.ensures.put at c.in_ok-is_new.ensures.count))
