use Rattle.std.proofs.Common.{sym, ap, ◌∙◌}
use Rattle.pst_remembered.specs.Rising.{last_of, is_above}
use Rattle.pst_remembered.proofs.RisingLemmas.{none_above, run_up_to, searched_for}
use Rattle.pst_remembered.proofs.rising.is_among.Goals as goal

pub returns-then-is_above : goal.returns-then-is_above
returns-then-is_above g c =
    sym (none_above g.K.Ord.cmp g.met.K.Ord.total (last_of c.args.keys.now) c.args.keys.now c.args.key.now (run_up_to g.K.Ord.cmp g.met.K.Ord.total c.args.keys.now c.requires)
    (ap (λ o. is_above g.K.Ord.cmp o c.args.key.now) (sym c.last.ensures.value) ∙ sym c.is_above.ensures ∙ c.if-is_above.true))

pub returns : goal.returns
returns g c =
    c.is_ok.ensures.value
    ∙ searched_for g.K.Ord.cmp g.met.K.Ord.total c.args.keys.now c.args.key.now c.binary_search.result c.requires c.binary_search.ensures.bound c.binary_search.ensures.position
