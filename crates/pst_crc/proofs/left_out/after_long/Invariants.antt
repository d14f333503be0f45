use Rattle.std.proofs.Common.{◌≡◌, ◌+◌, ◌-◌, ◌≤◌, ℕ, length, get_or}
use Rattle.pst_crc.specs.LeftOut.{word_in, whole_in, fed_words}
use Rattle.pst_crc.proofs.left_out.after_long.Given as goal

-- what the words from number i on make, with what is added to them, is what all words make
abbrev pub invariant-loop-i : goal.invariant-loop-i
invariant-loop-i l = record {
  same : fed_words 0 (whole_in l.bytes l.words) l.i (l.count - l.i + 300) ≡ fed_words l.register (word_in l.bytes) 0 (l.count + 300);
  none : (j : ℕ) → l.i ≤ j → get_or l.words (300 + j) 0 ≡ 0;
  room : length l.words ≡ 2348;
}
