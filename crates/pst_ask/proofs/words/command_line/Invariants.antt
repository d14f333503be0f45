use Rattle.std.proofs.Common.{◌≡◌, drop}
use Rattle.clap.specs.Words.{app_of}
use Rattle.pst_ask.specs.Verbs.{verbs}
use Rattle.pst_ask.specs.Words.{with_verbs, show_app}
use Rattle.pst_ask.proofs.words.command_line.Given as goal

-- the commands so far, with those that are left, are all
abbrev pub invariant-loop-verb : goal.invariant-loop-verb
invariant-loop-verb l = record {
  all : l.verb-items ≡ verbs;
  left : with_verbs (app_of l.line) (drop l.verb-index l.verb-items) ≡ show_app;
}
