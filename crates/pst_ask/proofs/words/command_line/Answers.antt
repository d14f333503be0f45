use Rattle.std.proofs.Common.{refl, rules}
use Rattle.clap.specs.Words.{app_of}
use Rattle.pst_ask.specs.declared.verb.Verb.TheVariants.{Check}
use Rattle.pst_ask.specs.Verbs.{verbs}
use Rattle.pst_ask.proofs.WordLemmas.{verbs_next}
use Rattle.pst_ask.proofs.words.command_line.Goals as goal

pub loop-verb-preserved : goal.loop-verb-preserved
loop-verb-preserved c = record {
  all = refl;
  left = verbs_next (app_of c.loop-verb.line) (app_of c.in_ok-line-2.line) verbs c.loop-verb.verb-index Check _ (search rules) c.in_ok-line-2.ensures c.loop-verb.invariant.left;
}
