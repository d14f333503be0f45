use Rattle.std.proofs.Common.{refl, arith}
use Rattle.pst_encoding.proofs.PassLemmas.{lowered_on, lowered_all}
use Rattle.pst_encoding.proofs.cyclic.lower.Goals as goal

pub loop-byte-preserved : goal.loop-byte-preserved
loop-byte-preserved c =
    lowered_on c.loop-byte.next _ c.loop-byte.byte-index _ c.loop-byte.bytes _ (omega (arith, c.loop-byte-test.true)) refl refl c.loop-byte.invariant

pub returns : goal.returns
returns c = lowered_all c.loop-byte.next c.loop-byte.byte-index c.loop-byte.bytes _ (omega (arith, c.loop-byte-test.false, c.loop-byte.auto.bytes)) c.loop-byte.invariant
