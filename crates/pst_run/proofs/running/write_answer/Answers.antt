use Rattle.std.proofs.Common.{◌≡◌, false, true, ap, sym, subst, ◌∙◌}
use Rattle.pst_ask.specs.Ask.{request_of, wanted_of}
use Rattle.pst_run.specs.Answer.{answer_with, bytes_for, digest_for, is_decoded_damage, is_of_whole}
use Rattle.pst_run.specs.Run.{EndsShowing}
use Rattle.pst_run.proofs.AnswerLemmas.{to_shown, to_whole}
use Rattle.pst_run.proofs.running.write_answer.Goals as goal

pub returns-then-is_of_whole : goal.returns-then-is_of_whole
returns-then-is_of_whole g c =
    let asked = request_of c.args.request.now in
    let plain : is_decoded_damage asked ≡ false = sym c.is_decoded_damage.ensures ∙ c.if-is_decoded_damage.false in
    let whole : is_of_whole asked ≡ true = sym c.is_of_whole.ensures ∙ c.if-is_of_whole.true in
    subst (λ told. EndsShowing c.write_whole_of.result told (g.W.Write.contents c.args.out.now) (g.W.Write.contents c.write_whole_of.new.out))
    (sym (to_whole asked c.args.bytes.items plain whole)) c.write_whole_of.ensures

pub returns : goal.returns
returns g c =
    let asked = request_of c.args.request.now in
    let bytes = c.args.bytes.items in
    let plain : is_decoded_damage asked ≡ false = sym c.is_decoded_damage.ensures ∙ c.if-is_decoded_damage.false in
    let all : is_of_whole asked ≡ false = sym c.is_of_whole.ensures ∙ c.if-is_of_whole.false in
    let digest : c.digest_if-digest.result ≡ digest_for (wanted_of c.args.request.now.ask) bytes = c.digest_if-digest.ensures ∙ ap (digest_for (wanted_of c.args.request.now.ask)) c.deref.ensures.value in
    let same = ap (λ d. answer_with (wanted_of c.args.request.now.ask) d (bytes_for c.args.request.now.decode bytes)) digest ∙ sym (to_shown asked bytes plain all) in
    subst (λ told. EndsShowing c.write_shown.result told (g.W.Write.contents c.args.out.now) (g.W.Write.contents c.write_shown.new.out)) same c.write_shown.ensures
