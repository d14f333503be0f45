use Rattle.std.proofs.Common.{sym, ◌∙◌}
use Rattle.pst_remembered.proofs.RisingLemmas.{sorted_popped, any_above}
use Rattle.pst_remembered.proofs.rising.is_in_run.Goals as goal

pub is_among-requires : goal.is_among-requires
is_among-requires g c = sorted_popped g.K.Ord.cmp g.met.K.Ord.total c.in-Some.before.now c.in-Some.last.now (rw c.in-Some.ensures.cases.0 at c.requires)

pub returns-in-Greater : goal.returns-in-Greater
returns-in-Greater g c =
    let parts = c.in-Some.ensures.cases.0 in
    rw parts (sym (any_above g.K.Ord.cmp g.met.K.Ord.total c.in-Some.before.now c.in-Some.last.now c.args.key.now (rw parts at c.requires) (sym c.cmp.ensures ∙ c.in-Greater.is)))
