use Rattle.std.proofs.Common.{rules}
use Rattle.pst_ask.proofs.NidLemmas.{digits_grow, number_next, good_next}
use Rattle.pst_ask.proofs.nid.number_of.Goals as goal

pub loop-digit-preserved : goal.loop-digit-preserved
loop-digit-preserved c =
    let n = c.loop-digit.number in
    let i = c.loop-digit.digit-index in
    let v = c.from-in-loop-digit.result in
    let before = c.loop-digit.invariant in
    record {
      low = digits_grow n v i before.low (search rules);
      number = number_next n v i 0 _ c.args.digits.now (search rules) (search rules) before.number;
      good = good_next i 0 _ c.args.digits.now (search rules) (search rules) before.good;
    }
