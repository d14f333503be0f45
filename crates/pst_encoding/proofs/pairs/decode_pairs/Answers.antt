use Rattle.std.proofs.Common.{◌≡◌, ◌+◌, ◌-◌, ◌≤◌, ◌∙◌, length, take, drop, ap, arith, rules}
use Rattle.std.proofs.lemmas.List.{length-map, length-take-le, length-drop}
use Rattle.std.proofs.lemmas.Slice.{take-put_mid, drop-put_mid}
use Rattle.pst_encoding.specs.Tables.{i_of}
use Rattle.pst_encoding.proofs.PairLemmas.{more_decoded}
use Rattle.pst_encoding.proofs.pairs.decode_pairs.Goals as goal

pub loop-at-preserved : goal.loop-at-preserved
loop-at-preserved c =
    let s = c.loop-at.bytes in
    let at = c.loop-at.at in
    let piece = c.decode_two.new.bytes in
    let inside : at + 2 ≤ length s = omega (arith, c.loop-at-test.true) in
    let n : at + 2 - at ≡ 2 = omega arith in
    let from : at ≤ length s = omega (arith, inside) in
    let left = length-drop at s in
    let long : length piece ≡ at + 2 - at =
    ap length c.decode_two.ensures ∙ length-map (take (at + 2 - at) (drop at s)) i_of ∙ length-take-le (at + 2 - at) (drop at s) (omega (arith, left, inside, n)) in
    record {
      same = search rules;
      inside = search rules;
      all = more_decoded at (at + 2) (at + 2 - at) s _ piece _ (omega (arith, n)) c.decode_two.ensures
          (take-put_mid at (at + 2 - at) s piece (at + 2) (omega (arith, long, n)) from) (drop-put_mid at (at + 2 - at) s piece (at + 2) (omega (arith, n)) from long) c.loop-at.invariant.all;
    }
