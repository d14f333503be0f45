use Rattle.pst_ask.specs.Ask.{request_of}
use Rattle.pst_run.specs.Answer.{answer_to}
use Rattle.pst_run.specs.Refusal.{refused_of}
use Rattle.pst_run.specs.Run.{outputs}
use Rattle.pst_run.proofs.RunLemmas.{answers_refused}
use Rattle.pst_run.proofs.running.answer_out.Goals as goal

pub returns-in-Err-clause-answered : goal.returns-in-Err-clause-answered
returns-in-Err-clause-answered g c =
    let old = outputs (g.W.Write.contents c.args.out.now) (g.E.Write.contents c.args.err.now) in
    let new = outputs (g.W.Write.contents c.write_answer.new.out) (g.E.Write.contents c.refuse.new.err) in
    answers_refused (answer_to (request_of c.args.request.now) c.args.bytes.items) (refused_of c.in-Err.refusal) c.refuse.result old new
    c.in-Err.ensures c.refuse.ensures.status c.refuse.ensures.said
