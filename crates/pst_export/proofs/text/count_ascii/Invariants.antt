use Rattle.std.proofs.Common.{◌≡◌, ◌++◌, ◌+◌, ◌*◌, ◌-◌, ◌≤◌, ℕ, List, length, drop}
use Rattle.pst_value_json.specs.pst_text.Text.{utf8_of}
use Rattle.pst_export.proofs.text.count_ascii.Given as goal

-- so many units of ASCII were gone over
abbrev pub invariant-loop-count : goal.invariant-loop-count
invariant-loop-count l = record {
  within : 2 * l.count ≤ length l.bytes;
  counted : (behind : List ℕ) → l.count + length (utf8_of (drop (2 * l.count) l.bytes ++ behind)) ≡ length (utf8_of (l.bytes ++ behind));
}

abbrev pub decreases-loop-count : goal.decreases-loop-count
decreases-loop-count l = length l.bytes - 2 * l.count
