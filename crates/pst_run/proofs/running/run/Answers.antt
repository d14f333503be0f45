use Rattle.pst_run.specs.Run.{CarriesOut, outputs}
use Rattle.std.proofs.Common.{inr, refl, subst}
use Rattle.std.specs.Io.KnownBytes.{Keeps}
use Rattle.std.proofs.KnownBytes.{Keeps-refl}
use Rattle.pst_ask.specs.Ask.{explain, order_of, request_of}
use Rattle.pst_ask.specs.Words.{IsAsked, texts}
use Rattle.pst_run.proofs.RunLemmas.{carried, done_as_asked, out_of_memory}
use Rattle.pst_run.proofs.running.run.Goals as goal

pub returns-in-Ok-Show-clause-answered : goal.returns-in-Ok-Show-clause-answered
returns-in-Ok-Show-clause-answered g c =
    let known = g.R.Read.remaining c.args.input.now in
    let old = outputs (g.W.Write.contents c.args.out.now) (g.E.Write.contents c.args.err.now) in
    let new = outputs (g.W.Write.contents c.carry_out.new.out) (g.E.Write.contents c.carry_out.new.err) in
    let asks = subst (λ o. IsAsked (texts c.args.words.now) (order_of o)) c.in-Ok-Show.field-0-is c.in-Ok-Show.ensures.ok in
    done_as_asked (texts c.args.words.now) (λ a. CarriesOut a known c.carry_out.result.status old new)
    (request_of c.in-Ok-Show.request) asks (carried (request_of c.in-Ok-Show.request) known c.carry_out.result old new c.carry_out.ensures.answered)

pub returns-in-Err-clause-explained : goal.returns-in-Err-clause-explained
returns-in-Err-clause-explained g c k asks =
    let four = out_of_memory (texts c.args.words.now) c.in-Err.none (explain k) c.decline.result c.in-Err.ensures.err asks c.decline.ensures.status in
    let same = c.decline.ensures.quiet (inr four) in
    let kept : Keeps (g.W.Write.contents c.args.out.now) (g.W.Write.contents c.decline.new.out) = rw same (Keeps-refl (g.W.Write.contents c.args.out.now)) in
    (inr (four, kept, c.decline.ensures.memory four), refl)
