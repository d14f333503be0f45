use Rattle.std.proofs.Common.{◌≡◌, None, false, not, ap, sym, subst, ◌∙◌}
use Rattle.std.specs.Option.{is_some}
use Rattle.pst_ask.specs.Ask.{request_of}
use Rattle.pst_plain.specs.Twin.{method_of}
use Rattle.pst_answer.specs.Answer.{Yields}
use Rattle.pst_answer.proofs.DamageLemmas.{none_of, plain_damage}
use Rattle.pst_answer.proofs.shown.damage_of.Goals as goal

pub returns-then-is_none : goal.returns-then-is_none
returns-then-is_none c =
    let lacks : is_some c.method_of.result ≡ false = c.is_none.ensures ∙ ap not c.if-is_none.true in
    let none : method_of c.args.bytes.now ≡ None = ap method_of (sym c.new.ensures.bytes) ∙ sym c.method_of.ensures.method ∙ none_of c.method_of.result lacks in
    subst (λ told. Yields c.shown_with.result told) (plain_damage (request_of c.args.request.now) c.args.digest c.args.bytes.now c.requires none) c.shown_with.ensures
