use Rattle.std.proofs.Common.{length, sym, ap, ◌∙◌}
use Rattle.pst_remembered.specs.Rising.{last_of, with_run}
use Rattle.pst_remembered.proofs.RisingLemmas.{popped, rising_moved, with_moved}
use Rattle.pst_remembered.proofs.rising.RisingSet.move_last.Goals as goal

pub invariant_of-self-2 : goal.invariant_of-self-2
invariant_of-self-2 g c =
    let last = sym (c.last.ensures.value ∙ ap last_of c.deref.ensures.value) ∙ sym c.copied.ensures ∙ c.in-Some.is in
    let parts = popped c.self.inside.run.items c.pop.new.self.items _ c.pop.result c.in-Some.last (sym (ap length c.deref.ensures.value) ∙ c.deref.ensures.len) c.pop.ensures.items c.pop.ensures.value last in
    rw (c.in_ok-insert_in_rest.ensures.inserted, c.in_ok-insert_in_rest.ensures.top) (rising_moved g.K.Ord.cmp g.met.K.Ord.total c.pop.new.self.items c.self.inside.rest.keys c.self.inside.top c.in-Some.last (rw parts at c.self.invariant))

pub returns-clause-same : goal.returns-clause-same
returns-clause-same g c =
    let last = sym (c.last.ensures.value ∙ ap last_of c.deref.ensures.value) ∙ sym c.copied.ensures ∙ c.in-Some.is in
    let parts = popped c.self.inside.run.items c.pop.new.self.items _ c.pop.result c.in-Some.last (sym (ap length c.deref.ensures.value) ∙ c.deref.ensures.len) c.pop.ensures.items c.pop.ensures.value last in
    rw (c.in_ok-insert_in_rest.ensures.inserted, ← c.self.view_is) (with_moved g.K.Ord.cmp g.met.K.Ord.total c.requires c.pop.new.self.items c.self.inside.rest.keys c.in-Some.last c.self.invariant.ordered ∙ ap (λ run. with_run g.K.Ord.cmp run c.self.inside.rest.keys) (sym parts))
