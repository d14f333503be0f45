use Rattle.std.proofs.Common.{◌≡◌, ◌+◌, ◌*◌, ◌<◌, ◌≤◌, ℕ, true, ◌⊎◌}
use Rattle.std.specs.Prelude.{slice_index}
use Rattle.json.specs.Run.{is_plain}
use Rattle.pst_text.proofs.eight.whole_among.Given as goal

-- where all so far were counted, they are characters of their own and stand for themselves
abbrev pub invariant-loop-i : goal.invariant-loop-i
invariant-loop-i l = record {
  most : l.count ≤ l.i;
  alone : l.count ≡ l.i → (k : ℕ) → k < l.i → (slice_index l.bytes (l.at + 2 * k) + 256 * slice_index l.bytes (l.at + 2 * k + 1) < 0xD800)
      ⊎ (0xE000 ≤ slice_index l.bytes (l.at + 2 * k) + 256 * slice_index l.bytes (l.at + 2 * k + 1));
  plain : l.count ≡ l.i → (k : ℕ) → k < l.i → slice_index l.bytes (l.at + 2 * k) + 256 * slice_index l.bytes (l.at + 2 * k + 1) < 128
      → is_plain (slice_index l.bytes (l.at + 2 * k) + 256 * slice_index l.bytes (l.at + 2 * k + 1)) ≡ true;
}
