use Rattle.std.proofs.Common.{sym, ap, ◌∙◌}
use Rattle.std.specs.List.{list_any}
use Rattle.std.specs.BTreeMap.{is_at}
use Rattle.pst_remembered.proofs.RisingLemmas.{found_in_run, not_in_run}
use Rattle.pst_remembered.proofs.rising.RisingSet.has.Goals as goal

pub returns-then-is_in_run : goal.returns-then-is_in_run
returns-then-is_in_run g c =
    let is = ap (list_any (is_at (g.K.Ord.cmp c.args.key.now))) (sym c.deref.ensures.value) ∙ sym c.is_in_run.ensures ∙ c.if-is_in_run.true in
    rw (← c.self.view_is) (c.if-is_in_run.true ∙ sym (found_in_run g.K.Ord.cmp g.met.K.Ord.total c.self.inside.run.items c.self.inside.rest.keys c.args.key.now is))

pub returns-else-is_in_run : goal.returns-else-is_in_run
returns-else-is_in_run g c =
    let is = ap (list_any (is_at (g.K.Ord.cmp c.args.key.now))) (sym c.deref.ensures.value) ∙ sym c.is_in_run.ensures ∙ c.if-is_in_run.false in
    rw (← c.self.view_is) (c.is_in_rest.ensures ∙ sym (not_in_run g.K.Ord.cmp g.met.K.Ord.total c.self.inside.run.items c.self.inside.rest.keys c.args.key.now is))
