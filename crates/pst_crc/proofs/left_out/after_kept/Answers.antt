use Rattle.std.proofs.Common.{◌+◌, ◌*◌, refl, arith}
use Rattle.std.specs.Prelude.{slice_index}
use Rattle.pst_crc.specs.LeftOut.{fed_words}
use Rattle.pst_crc.proofs.Kept.{turn_on}
use Rattle.pst_crc.proofs.left_out.after_kept.Goals as goal

pub loop-k-init : goal.loop-k-init
unfolding fed_words
loop-k-init c = refl

pub loop-k-preserved : goal.loop-k-preserved
loop-k-preserved c =
    let n = 96 * c.loop-k.k in
    turn_on n 96 (96 * (c.loop-k.k + 1)) 0 c.args.from (c.args.from + n) c.loop-k.register c.after_chains-register.result (slice_index c.args.words.now)
    refl (omega arith) c.loop-k.invariant c.after_chains-register.ensures

pub loop-j-preserved : goal.loop-j-preserved
loop-j-preserved c =
    let n = 288 + 2 * c.loop-j.j in
    turn_on n 2 (288 + 2 * (c.loop-j.j + 1)) 0 c.args.from (c.args.from + 288 + 2 * c.loop-j.j) c.loop-j.register c.after_two-register.result (slice_index c.args.words.now)
    (omega arith) (omega arith) c.loop-j.invariant c.after_two-register.ensures
