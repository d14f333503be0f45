use Rattle.std.proofs.Common.{◌≡◌, ◌++◌, ◌+◌, ◌*◌, ◌≤◌, length, take, drop}
use Rattle.json.specs.Print.{escape}
use Rattle.pst_text.specs.Text.{utf8_of}
use Rattle.pst_text.proofs.eight.put_characters.Given as goal

-- what is laid down, with what is left, is all
abbrev pub invariant-loop-i : goal.invariant-loop-i
invariant-loop-i l = record {
  most : l.end ≤ 3 * l.i;
  long : length l.spelt ≡ 24;
  all : take l.end l.spelt ++ escape (utf8_of (drop (l.at + 2 * l.i) l.bytes)) ≡ escape (utf8_of (drop l.at l.bytes));
}
