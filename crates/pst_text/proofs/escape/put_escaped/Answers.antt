use Rattle.std.proofs.Common.{arith}
use Rattle.pst_text.proofs.EscapeLemmas.{next_put, last_put}
use Rattle.pst_text.proofs.KeptLemmas.{kept_more, kept_still, kept_through, kept_so}
use Rattle.pst_text.proofs.escape.put_escaped.Goals as goal

pub returns-then-end-shown-clause-put : goal.returns-then-end-shown-clause-put
returns-then-end-shown-clause-put c =
    let end = c.plain_end-end in
    last_put c.args.shown.now c.loop-text.at end.result _ _ _ end.ensures.value (omega arith) c.in_ok-extend_from_slice.ensures.items c.loop-text.invariant.all

pub loop-text-preserved : goal.loop-text-preserved
loop-text-preserved c =
    let end = c.plain_end-end in
    record {
      within = omega arith;
      all = next_put c.args.shown.now c.loop-text.at end.result _ _ _ _ end.ensures.value (omega arith) c.in_ok-extend_from_slice.ensures.items c.in_ok-put_escape.ensures.put c.loop-text.invariant.all;
      kept = kept_more _ _ _ _ (kept_more _ _ _ _ c.loop-text.invariant.kept c.in_ok-extend_from_slice.ensures.items) c.in_ok-put_escape.ensures.put;
    }

pub returns-in_err-extend_from_slice-clause-kept : goal.returns-in_err-extend_from_slice-clause-kept
returns-in_err-extend_from_slice-clause-kept c = kept_so c.from_residual.result _ _ (kept_still _ _ _ c.loop-text.invariant.kept c.in_err-extend_from_slice.ensures.items)

pub returns-in_err-put_escape-clause-kept : goal.returns-in_err-put_escape-clause-kept
returns-in_err-put_escape-clause-kept c = kept_so c.from_residual-in_err-put_escape.result _ _ (kept_through _ _ _ (kept_more _ _ _ _ c.loop-text.invariant.kept c.in_ok-extend_from_slice.ensures.items) c.in_err-put_escape.ensures.kept)
