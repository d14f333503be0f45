use Rattle.std.proofs.Common.{inl, subst, sym}
use Rattle.pst_ask.specs.Words.{texts}
use Rattle.pst_answer.specs.Words.{IsWords}
use Rattle.pst_answer.proofs.answer.answer_text.Goals as goal

pub returns-in-Ok : goal.returns-in-Ok
returns-in-Ok c =
    let are = subst (λ words. IsWords c.args.words.now (texts words)) (sym c.deref.ensures.value) c.in-Ok.ensures.ok in
    inl (texts c.deref.result.now, are, c.answer_words.ensures)
