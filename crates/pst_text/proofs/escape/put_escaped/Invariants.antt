use Rattle.std.proofs.Common.{◌≡◌, ◌++◌, ◌-◌, ◌≤◌, length, drop}
use Rattle.json.specs.Print.{escape}
use Rattle.pst_text.specs.Kept.{BeginsWith}
use Rattle.pst_text.proofs.escape.put_escaped.Given as goal

-- what stands there, with what is left, is all
abbrev pub invariant-loop-text : goal.invariant-loop-text
invariant-loop-text l = record {
  within : l.at ≤ length l.shown;
  all : l.text.items ++ escape (drop l.at l.shown) ≡ l.initial.text.items ++ escape l.shown;
  kept : BeginsWith l.text.items l.fn.text.items;
}

abbrev pub decreases-loop-text : goal.decreases-loop-text
decreases-loop-text l = length l.shown - l.at
