use Rattle.std.proofs.Common.{◌+◌, ◌*◌, length, get_or, refl, ap, ◌∙◌, arith}
use Rattle.pst_encoding.proofs.TurnLemmas.{turns_long}
use Rattle.pst_encoding.proofs.PassLemmas.{entry_turned}
use Rattle.pst_encoding.proofs.cyclic.entry.Goals as goal

pub bounds-turns-from : goal.bounds-turns-from
bounds-turns-from c =
    let long = ap length c.requires ∙ turns_long 65536 in
    omega (arith, long, c.from.ensures, c.ranges.high.fits, c.ranges.byte.fits)

pub returns : goal.returns
returns c =
    let i = c.from.result * 256 + c.from-2.result in
    entry_turned c.args.turns.now c.args.high c.args.byte i (get_or c.args.turns.now i 0) c.requires (omega (arith, c.ranges.high.fits)) (omega (arith, c.ranges.byte.fits))
    (omega (arith, c.from.ensures, c.from-2.ensures)) refl
