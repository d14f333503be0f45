use Rattle.std.proofs.Common.{refl, rules}
use Rattle.pst_fault.specs.declared.kind.Kind.TheVariants.{Short}
use Rattle.pst_explain.specs.Kinds.{is_named, kinds}
use Rattle.pst_explain.proofs.KindLemmas.{find_here, find_next}
use Rattle.pst_explain.proofs.named.kind_in.Goals as goal

pub loop-kind-preserved : goal.loop-kind-preserved
loop-kind-preserved c = record {
  all = refl;
  left = find_next (is_named c.args.word.now) kinds c.loop-kind.kind-index Short _ (search rules) (search rules) c.loop-kind.invariant.left;
}

pub returns-then-names : goal.returns-then-names
returns-then-names c = find_here (is_named c.args.word.now) kinds c.loop-kind.kind-index Short _ (search rules) (search rules) c.loop-kind.invariant.left
