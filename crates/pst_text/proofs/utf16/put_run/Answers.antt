use Rattle.std.proofs.Common.{rules, arith}
use Rattle.pst_text.proofs.KeptLemmas.{kept_through}
use Rattle.pst_text.proofs.utf16.put_run.Goals as goal

pub loop-left-preserved : goal.loop-left-preserved
loop-left-preserved c = record {
  within = (omega arith, omega arith);
  room = omega arith;
  all = search rules;
  kept = kept_through _ _ _ c.loop-left.invariant.kept c.put_at-at.ensures.kept;
}
