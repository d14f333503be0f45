use Rattle.std.proofs.Common.{◌≡◌, ◌+◌, ◌*◌, ◌<◌, length, ap, ◌∙◌, arith}
use Rattle.pst_encoding.proofs.PairLemmas.{pairs_long, entry_low, entry_high}
use Rattle.pst_encoding.proofs.pairs.entry.Goals as goal

pub bounds-pairs-from : goal.bounds-pairs-from
bounds-pairs-from c =
    let long = ap length c.requires ∙ pairs_long 65536 in
    omega (arith, long, c.from.ensures, c.from-2.ensures, c.ranges.low.fits, c.ranges.high.fits)

pub returns : goal.returns
returns c =
    let i = c.from.result + 256 * c.from-2.result in
    let low_fits : c.args.low < 256 = omega (arith, c.ranges.low.fits) in
    let high_fits : c.args.high < 256 = omega (arith, c.ranges.high.fits) in
    let place : i ≡ c.args.low + 256 * c.args.high = omega (arith, c.from.ensures, c.from-2.ensures) in
    record {
      low = entry_low c.args.pairs.now c.args.low c.args.high i c.requires low_fits high_fits place;
      high = entry_high c.args.pairs.now c.args.low c.args.high i c.requires low_fits high_fits place;
    }
