use Rattle.std.proofs.Common.{◌≡◌, ◌+◌, ◌*◌}
use Rattle.std.specs.Prelude.{slice_index}
use Rattle.pst_crc.specs.LeftOut.{fed_words}
use Rattle.pst_crc.proofs.left_out.after_kept.Given as goal

abbrev pub invariant-loop-k : goal.invariant-loop-k
invariant-loop-k l = l.register ≡ fed_words 0 (slice_index l.words) l.from (96 * l.k)

abbrev pub invariant-loop-j : goal.invariant-loop-j
invariant-loop-j l = l.register ≡ fed_words 0 (slice_index l.words) l.from (288 + 2 * l.j)
