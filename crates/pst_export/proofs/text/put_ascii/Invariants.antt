use Rattle.std.proofs.Common.{◌≡◌, ◌++◌, ◌+◌, ◌-◌, ◌/◌, ◌≤◌, ℕ, List, length, drop}
use Rattle.std.specs.Prelude.{vec_len, vec_capacity}
use Rattle.pst_value_json.specs.pst_text.Text.{utf8_of}
use Rattle.pst_export.proofs.text.put_ascii.Given as goal

-- what stands there, with what is left, is all, and there is room for what is left
abbrev pub invariant-loop-at : goal.invariant-loop-at
invariant-loop-at l = record {
  within : l.at ≤ length l.bytes;
  room : vec_len l.text + (length l.bytes - l.at) / 2 ≤ vec_capacity l.text;
  all : (behind : List ℕ) → l.text.items ++ utf8_of (drop l.at l.bytes ++ behind) ≡ l.fn.text.items ++ utf8_of (l.bytes ++ behind);
}

abbrev pub decreases-loop-at : goal.decreases-loop-at
decreases-loop-at l = length l.bytes - l.at
