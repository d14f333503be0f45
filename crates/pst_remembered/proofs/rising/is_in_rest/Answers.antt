use Rattle.std.proofs.Common.{sym, ap, ◌∙◌}
use Rattle.pst_remembered.specs.Rising.{is_above}
use Rattle.pst_remembered.proofs.RisingLemmas.{none_above}
use Rattle.pst_remembered.proofs.rising.is_in_rest.Goals as goal

pub returns-then-is_above : goal.returns-then-is_above
returns-then-is_above g c =
    sym (none_above g.K.Ord.cmp g.met.K.Ord.total c.args.top.now c.args.rest.now.keys c.args.key.now c.requires
    (ap (λ o. is_above g.K.Ord.cmp o c.args.key.now) (sym c.as_ref.ensures.value) ∙ sym c.is_above.ensures ∙ c.if-is_above.true))
