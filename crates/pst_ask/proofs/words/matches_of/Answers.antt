use Rattle.std.proofs.Common.{true, subst, ap, ◌≡◌, ◌∙◌}
use Rattle.clap.specs.Words.{app_of, App, FailsBy, fault_of, is_simple_and_free}
use Rattle.pst_ask.specs.Words.{texts}
use Rattle.pst_ask.proofs.WordLemmas.{is_free_show}
use Rattle.pst_ask.proofs.words.matches_of.Goals as goal

pub returns-clause-kinds : goal.returns-clause-kinds
returns-clause-kinds c =
    let free : is_simple_and_free (app_of c.in_ok-command.command) ≡ true = ap is_simple_and_free c.in_ok-command.ensures ∙ is_free_show in
    let parse = c.try_get_matches_from in
    subst (λ (a : App). FailsBy (fault_of a (texts c.args.words.now)) parse.result) c.in_ok-command.ensures (parse.ensures.kinds free)
