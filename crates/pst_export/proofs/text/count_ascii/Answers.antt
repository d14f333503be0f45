use Rattle.std.proofs.Common.{arith}
use Rattle.pst_export.proofs.AsciiLemmas.{ascii_counted}
use Rattle.pst_export.proofs.text.count_ascii.Goals as goal

pub loop-count-preserved : goal.loop-count-preserved
loop-count-preserved c =
    let unit = c.is_ascii.ensures c.if-is_ascii.true in
    record {
      within = omega arith;
      counted = λ behind. ascii_counted c.args.bytes.now c.loop-count.count behind _ (omega arith) unit.0 unit.1 (c.loop-count.invariant.counted behind);
    }
