use Rattle.std.proofs.Common.{rules, refl}
use Rattle.hex.specs.Hex.{lower_digits}
use Rattle.pst_text.proofs.DigitLemmas.{byte_next, bytes_end}
use Rattle.pst_text.proofs.KeptLemmas.{kept_more, kept_through, kept_so}
use Rattle.pst_text.proofs.digits.put_each.Goals as goal

pub loop-byte-preserved : goal.loop-byte-preserved
loop-byte-preserved c = record {
  all = byte_next lower_digits c.args.bytes.now c.loop-byte.byte-index 0 _ _ _ _ (search rules) refl c.in_ok-put_lower.ensures.put c.loop-byte.invariant.all;
  kept = kept_more _ _ _ _ c.loop-byte.invariant.kept c.in_ok-put_lower.ensures.put;
}

pub returns-clause-put : goal.returns-clause-put
returns-clause-put c = bytes_end lower_digits c.args.bytes.now c.loop-byte.byte-index _ _ (search rules) c.loop-byte.invariant.all

pub returns-in_err-put_lower-clause-kept : goal.returns-in_err-put_lower-clause-kept
returns-in_err-put_lower-clause-kept c = kept_so c.from_residual.result _ _ (kept_through _ _ _ c.loop-byte.invariant.kept c.in_err-put_lower.ensures.kept)
