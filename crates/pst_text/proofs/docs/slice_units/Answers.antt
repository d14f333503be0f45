use Rattle.std.proofs.Common.{arith}
use Rattle.pst_text.proofs.UnitLemmas.{unit_read, units_read}
use Rattle.pst_text.proofs.docs.slice_units.Goals as goal

pub loop-at-preserved : goal.loop-at-preserved
loop-at-preserved c =
    record {
      within = omega arith;
      room = omega arith;
      all = unit_read c.args.bytes.now c.loop-at.at _ _ _ (omega arith) (rw (c.from.ensures, c.from-in-loop-at.ensures) at c.push_reserved.ensures.items) c.loop-at.invariant.all;
    }

pub returns : goal.returns
returns c = units_read c.args.bytes.now c.loop-at.at _ _ (omega arith) c.loop-at.invariant.all
