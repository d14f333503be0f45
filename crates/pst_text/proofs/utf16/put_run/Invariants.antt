use Rattle.std.proofs.Common.{◌≡◌, ◌++◌, ◌+◌, ◌*◌, ◌≤◌, length, drop}
use Rattle.std.specs.Prelude.{vec_len, vec_capacity}
use Rattle.json.specs.Print.{escape}
use Rattle.pst_text.specs.Text.{utf8_of}
use Rattle.pst_text.specs.Kept.{BeginsWith}
use Rattle.pst_text.proofs.utf16.put_run.Given as goal

-- what stands there, with what is left, is all, and there is room for what may still be put
abbrev pub invariant-loop-left : goal.invariant-loop-left
invariant-loop-left l = record {
  within : (l.from + l.count ≤ l.at + l.left) × (l.at ≤ length l.bytes);
  room : vec_len l.text + 6 * l.left ≤ vec_capacity l.text;
  all : l.text.items ++ escape (utf8_of (drop l.at l.bytes)) ≡ l.fn.text.items ++ escape (utf8_of (drop l.from l.bytes));
  kept : BeginsWith l.text.items l.fn.text.items;
}

abbrev pub decreases-loop-left : goal.decreases-loop-left
decreases-loop-left l = l.left
