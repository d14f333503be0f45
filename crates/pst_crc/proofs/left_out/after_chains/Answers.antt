use Rattle.std.proofs.Common.{◌≡◌, ◌+◌, ◌*◌, refl, arith}
use Rattle.std.specs.Prelude.{slice_index}
use Rattle.pst_crc.specs.LeftOut.{fed_words}
use Rattle.pst_crc.proofs.Kept.{turn_on, chains_are}
use Rattle.pst_crc.proofs.left_out.after_chains.Goals as goal

pub loop-k-init : goal.loop-k-init
unfolding fed_words
loop-k-init c = record { first = refl; second = refl; third = refl }

pub loop-k-preserved : goal.loop-k-preserved
loop-k-preserved c =
    let words = slice_index c.args.words.now in
    let i = c.args.i in
    let k = c.loop-k.k in
    let kept = c.loop-k.invariant in
    record {
      first = turn_on (2 * k) 2 (2 * (k + 1)) c.args.register i (i + 2 * k) c.loop-k.first c.after_two-first.result words
          (omega arith) (omega arith) kept.first c.after_two-first.ensures;
      second = turn_on (2 * k) 2 (2 * (k + 1)) 0 (i + 32) (i + 2 * k + 32) c.loop-k.second c.after_two-second.result words
          (omega arith) (omega arith) kept.second c.after_two-second.ensures;
      third = turn_on (2 * k) 2 (2 * (k + 1)) 0 (i + 64) (i + 2 * k + 64) c.loop-k.third c.after_two-third.result words
          (omega arith) (omega arith) kept.third c.after_two-third.ensures;
    }

pub returns : goal.returns
returns c =
    let words = slice_index c.args.words.now in
    let kept = c.loop-k.invariant in
    let all : 2 * c.loop-k.k ≡ 32 = omega (arith, c.loop-k-test.false, c.loop-k.auto.k-end) in
    rw (c.past_stream-2.ensures, c.past_stream.ensures)
    (chains_are c.args.register c.args.i c.loop-k.first c.loop-k.second c.loop-k.third words (rw all at kept.first) (rw all at kept.second) (rw all at kept.third))
