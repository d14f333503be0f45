use Rattle.std.proofs.Common.{sym, ◌∙◌}
use Rattle.pst_damage.proofs.OrderLemmas.{put_before, put_last}
use Rattle.pst_damage.proofs.order.put_in.Goals as goal

pub returns-in_ok-insert-in-Some : goal.returns-in_ok-insert-in-Some
returns-in_ok-insert-in-Some c =
    let place = rw c.deref.ensures.value at (sym c.first_above.ensures ∙ c.in-Some.is) in
    c.in_ok-insert-in-Some.ensures.items ∙ put_before c.args.node c.args.nodes.now.items _ place

pub returns-in_ok-push-in-None : goal.returns-in_ok-push-in-None
returns-in_ok-push-in-None c =
    let place = rw c.deref.ensures.value at (sym c.first_above.ensures ∙ c.in-None.is) in
    c.in_ok-push-in-None.ensures.items ∙ put_last c.args.node c.args.nodes.now.items place
