use Rattle.std.proofs.Common.{refl, rules}
use Rattle.std.specs.Str.{bytes_eq}
use Rattle.pst_ask.specs.declared.verb.Verb.TheVariants.{Check}
use Rattle.pst_ask.specs.Verbs.{name_of, verbs}
use Rattle.pst_explain.proofs.KindLemmas.{find_next}
use Rattle.pst_ask.proofs.verb.Verb.named.Goals as goal

pub loop-verb-preserved : goal.loop-verb-preserved
loop-verb-preserved c = record {
  all = refl;
  left = find_next (λ v. bytes_eq (name_of v) c.args.name.now) verbs c.loop-verb.verb-index Check _ (search rules) (search rules) c.loop-verb.invariant.left;
}
