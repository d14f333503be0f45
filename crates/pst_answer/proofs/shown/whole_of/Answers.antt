use Rattle.std.proofs.Common.{◌≡◌}
use Rattle.pst_ask.specs.Ask.{wanted_of}
use Rattle.pst_run.specs.Answer.{method_for, whole_by}
use Rattle.pst_answer.proofs.WholeLemmas.{yields_shown}
use Rattle.pst_answer.proofs.shown.whole_of.Goals as goal

-- src/shown.rt:130:1
pub returns-in-Ok : goal.returns-in-Ok
returns-in-Ok c =
    let wanted = wanted_of c.args.request.now.ask in
    let answer = whole_by (method_for c.args.request.now.decode c.args.bytes.now) wanted c.args.bytes.now in
    yields_shown answer c.in-Ok.fails c.new-text.result.items c.write_whole_of.new.text.items c.new-text.ensures.items c.in-Ok.ensures
