use Rattle.std.proofs.Common.{◌≡◌, ◌++◌, ◌-◌, ◌≤◌, length, drop}
use Rattle.json.specs.Print.{escape}
use Rattle.pst_text.specs.Text.{utf8_of}
use Rattle.pst_text.specs.Kept.{BeginsWith}
use Rattle.pst_text.proofs.utf16.put_slice.Given as goal

-- what stands there, with what is left, is all
abbrev pub invariant-loop-at : goal.invariant-loop-at
invariant-loop-at l = record {
  within : l.at ≤ length l.bytes;
  all : l.text.items ++ escape (utf8_of (drop l.at l.bytes)) ≡ l.fn.text.items ++ escape (utf8_of l.bytes);
  kept : BeginsWith l.text.items l.fn.text.items;
}

abbrev pub decreases-loop-at : goal.decreases-loop-at
decreases-loop-at l = length l.bytes - l.at
