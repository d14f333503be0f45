use Rattle.std.proofs.Common.{◌≡◌, ◌%◌, ◌<◌, ℕ, length, take, drop, get_or}
use Rattle.std.specs.Prelude.{fold}
use Rattle.pst_crc.specs.Crc.{after_byte}
use Rattle.pst_crc.proofs.streams.after_streams.Given as goal

-- of each third, what is left, after what was taken, is all of it; as much is left of each
abbrev pub invariant-loop-front : goal.invariant-loop-front
invariant-loop-front l = record {
  first : fold after_byte l.first l.front ≡ fold after_byte l.fn.register (take 128 l.fn.bytes);
  second : fold after_byte l.second l.middle ≡ fold after_byte 0 (take 128 (drop 128 l.fn.bytes));
  third : fold after_byte l.third l.back ≡ fold after_byte 0 (drop 128 (drop 128 l.fn.bytes));
  even : length l.front ≡ length l.middle;
  level : length l.front ≡ length l.back;
  whole : length l.front % 16 ≡ 0;
  front_fits : (i : ℕ) → get_or l.front i 0 < 256;
  middle_fits : (i : ℕ) → get_or l.middle i 0 < 256;
  back_fits : (i : ℕ) → get_or l.back i 0 < 256;
}

abbrev pub decreases-loop-front : goal.decreases-loop-front
decreases-loop-front l = length l.front
