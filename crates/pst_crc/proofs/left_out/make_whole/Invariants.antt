use Rattle.std.proofs.Common.{◌≡◌, ◌<◌, ◌≤◌, ℕ}
use Rattle.std.specs.Prelude.{slice_index}
use Rattle.pst_crc.specs.LeftOut.{whole_in}
use Rattle.pst_crc.proofs.left_out.make_whole.Given as goal

-- before number i what is added to them is in, and from there on they are as they were
abbrev pub invariant-loop-i : goal.invariant-loop-i
invariant-loop-i l = record {
  made : (j : ℕ) → l.from ≤ j → j < l.i → slice_index l.words j ≡ whole_in l.bytes l.fn.words j;
  rest : (j : ℕ) → l.i ≤ j → slice_index l.words j ≡ slice_index l.fn.words j;
}
