use Rattle.std.proofs.Common.{arith}
use Rattle.pst_export.proofs.AsciiLemmas.{ascii_put}
use Rattle.pst_export.proofs.text.put_ascii.Goals as goal

pub loop-at-preserved : goal.loop-at-preserved
loop-at-preserved c =
    let unit = c.is_ascii.ensures c.if-is_ascii.true in
    record {
      within = omega arith;
      room = omega arith;
      all = λ behind. ascii_put c.args.bytes.now c.loop-at.at behind _ _ _ (omega arith) unit.0 unit.1 c.push_reserved.ensures.items (c.loop-at.invariant.all behind);
    }
