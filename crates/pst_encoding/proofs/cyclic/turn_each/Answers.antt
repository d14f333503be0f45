use Rattle.std.proofs.Common.{◌≡◌, ◌+◌, ◌-◌, ◌/◌, ◌%◌, ◌≤◌, ◌∙◌, length, take, drop, ap, refl, arith, rules}
use Rattle.std.proofs.lemmas.List.{length-map, length-take-le, length-drop}
use Rattle.std.proofs.lemmas.Slice.{take-put_mid, drop-put_mid}
use Rattle.pst_encoding.specs.Cyclic.{turned}
use Rattle.pst_encoding.proofs.PassLemmas.{run_turned, runs_done}
use Rattle.pst_encoding.proofs.cyclic.turn_each.Goals as goal

pub loop-at-preserved : goal.loop-at-preserved
loop-at-preserved c =
    let s = c.loop-at.bytes in
    let at = c.loop-at.at in
    let run = c.min-run.result in
    let piece = c.turn.new.bytes in
    let inside : at + run ≤ length s = omega (arith, c.min-run.ensures, c.loop-at-test.true) in
    let short : c.loop-at.next % 256 + run ≤ 256 = omega (arith, c.min-run.ensures, c.from.ensures) in
    let n : at + run - at ≡ run = omega arith in
    let from : at ≤ length s = omega (arith, inside) in
    let left = length-drop at s in
    let long : length piece ≡ at + run - at =
    ap length c.turn.ensures ∙ length-map (take (at + run - at) (drop at s)) (turned (c.loop-at.next / 256)) ∙ length-take-le (at + run - at) (drop at s) (omega (arith, left, inside, n)) in
    record {
      same = search rules;
      all = run_turned c.loop-at.next _ at run (at + run - at) s _ piece _ (omega (arith, c.loop-at.auto.next-fits)) inside short n refl c.turn.ensures
          (take-put_mid at (at + run - at) s piece (at + run) (omega (arith, long, n)) from) (drop-put_mid at (at + run - at) s piece (at + run) (omega (arith, n)) from long) c.loop-at.invariant.all;
    }

pub returns : goal.returns
returns c = runs_done c.loop-at.next c.loop-at.at c.loop-at.bytes _ (omega (arith, c.loop-at-test.false)) c.loop-at.invariant.all
