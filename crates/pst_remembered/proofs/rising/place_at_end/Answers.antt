use Rattle.std.proofs.Common.{sym, ap, ◌∙◌}
use Rattle.pst_remembered.specs.Rising.{is_above}
use Rattle.pst_remembered.proofs.RisingLemmas.{sorted_alone, sorted_end, sorted_before_last}
use Rattle.pst_remembered.proofs.rising.place_at_end.Goals as goal

pub returns-in_default-clause-rises : goal.returns-in_default-clause-rises
returns-in_default-clause-rises g c = sorted_alone g.K.Ord.cmp g.met.K.Ord.total c.args.run.now c.args.key.now c.in_default.ensures.cases

pub returns-in-Greater-clause-rises : goal.returns-in-Greater-clause-rises
returns-in-Greater-clause-rises g c =
    let parts = c.in-Some.ensures.cases.0 in
    rw parts (sorted_end g.K.Ord.cmp g.met.K.Ord.total c.in-Some.before.now c.in-Some.last.now c.args.key.now (rw parts at c.requires) (sym c.cmp.ensures ∙ c.in-Greater.is))

pub returns-in-Less-clause-rises : goal.returns-in-Less-clause-rises
returns-in-Less-clause-rises g c =
    let parts = c.in-Some.ensures.cases.0 in
    let above = ap (λ o. is_above g.K.Ord.cmp o c.args.key.now) (sym c.last.ensures.value) ∙ sym c.is_above.ensures ∙ c.if-is_above.true in
    rw parts (sorted_before_last g.K.Ord.cmp g.met.K.Ord.total c.in-Some.before.now c.in-Some.last.now c.args.key.now (rw parts at c.requires) (sym c.cmp.ensures ∙ c.in-Less.is) above)
