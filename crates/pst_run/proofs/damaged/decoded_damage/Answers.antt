use Rattle.std.proofs.Common.{◌≡◌, false, None, ap, sym, subst, ◌∙◌}
use Rattle.pst_plain.specs.Twin.{method_of}
use Rattle.pst_run.specs.Answer.{Gives}
use Rattle.pst_run.proofs.AnswerLemmas.{damage_as_stored}
use Rattle.pst_run.proofs.damaged.decoded_damage.Goals as goal

pub returns-in_default : goal.returns-in_default
returns-in_default c =
    let none : method_of c.args.bytes.now ≡ None = ap method_of (sym c.new.ensures.bytes) ∙ sym c.method_of.ensures.method ∙ c.in_default.is in
    subst (λ told. Gives c.damage_answer.result told) (damage_as_stored false (method_of c.args.bytes.now) c.args.digest c.args.bytes.now none) (c.damage_answer.ensures false)
