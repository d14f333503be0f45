use Rattle.std.proofs.Common.{◌≡◌, ◌++◌, drop}
use Rattle.hex.specs.Hex.{encode_lower}
use Rattle.json.specs.Print.{escape}
use Rattle.pst_text.specs.Kept.{BeginsWith}
use Rattle.pst_text.proofs.digits.put_each.Given as goal

-- what stands there, with the bytes that are left, is all
abbrev pub invariant-loop-byte : goal.invariant-loop-byte
invariant-loop-byte l = record {
  all : l.text.items ++ escape (encode_lower (drop l.byte-index l.bytes)) ≡ l.initial.text.items ++ escape (encode_lower l.bytes);
  kept : BeginsWith l.text.items l.fn.text.items;
}
