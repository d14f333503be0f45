use Rattle.std.proofs.Common.{◌≡◌, ◌+◌, ◌*◌, ◌<◌, ◌≤◌, ℕ}
use Rattle.std.specs.Prelude.{slice_index}
use Rattle.pst_text.proofs.eight.ascii_among.Given as goal

-- where all so far were counted, they are ASCII
abbrev pub invariant-loop-i : goal.invariant-loop-i
invariant-loop-i l = record {
  most : l.count ≤ l.i;
  ascii : l.count ≡ l.i → (k : ℕ) → k < l.i → slice_index l.bytes (l.at + 2 * k) + 256 * slice_index l.bytes (l.at + 2 * k + 1) < 128;
}
