use Rattle.std.proofs.Common.{◌≡◌, ◌+◌, ◌*◌}
use Rattle.std.specs.Prelude.{slice_index}
use Rattle.pst_crc.specs.LeftOut.{fed_words}
use Rattle.pst_crc.proofs.left_out.after_chains.Given as goal

-- each chain is so far
abbrev pub invariant-loop-k : goal.invariant-loop-k
invariant-loop-k l = record {
  first : l.first ≡ fed_words l.register (slice_index l.words) l.i (2 * l.k);
  second : l.second ≡ fed_words 0 (slice_index l.words) (l.i + 32) (2 * l.k);
  third : l.third ≡ fed_words 0 (slice_index l.words) (l.i + 64) (2 * l.k);
}
