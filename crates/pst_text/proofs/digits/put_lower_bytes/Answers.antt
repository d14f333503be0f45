use Rattle.std.proofs.Common.{rules}
use Rattle.pst_text.proofs.DigitLemmas.{chunk_next}
use Rattle.pst_text.proofs.KeptLemmas.{kept_more, kept_still, kept_end, kept_so}
use Rattle.pst_text.proofs.digits.put_lower_bytes.Goals as goal

pub loop-chunk-preserved : goal.loop-chunk-preserved
loop-chunk-preserved c = record {
  all = chunk_next c.loop-chunk.left.now c.in-Some.chunk.now c.in-Some.rest.now _ _ _ _ 16 (search rules) (search rules) c.lower_of.ensures c.in_ok-extend_from_slice.ensures.items c.loop-chunk.invariant.all;
  kept = kept_more _ _ _ _ c.loop-chunk.invariant.kept c.in_ok-extend_from_slice.ensures.items;
}

pub returns-in_err-extend_from_slice-clause-kept : goal.returns-in_err-extend_from_slice-clause-kept
returns-in_err-extend_from_slice-clause-kept c = kept_so c.from_residual-in_err-extend_from_slice.result _ _ (kept_still _ _ _ c.loop-chunk.invariant.kept c.in_err-extend_from_slice.ensures.items)

pub returns-clause-kept : goal.returns-clause-kept
returns-clause-kept c = kept_end _ _ _ _ c.loop-chunk.invariant.kept c.put_each.ensures.kept
