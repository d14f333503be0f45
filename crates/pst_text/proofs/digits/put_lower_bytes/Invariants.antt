use Rattle.std.proofs.Common.{◌≡◌, ◌++◌, length}
use Rattle.hex.specs.Hex.{encode_lower}
use Rattle.json.specs.Print.{escape}
use Rattle.pst_text.specs.Kept.{BeginsWith}
use Rattle.pst_text.proofs.digits.put_lower_bytes.Given as goal

-- what stands there, with the bytes that are left, is all
abbrev pub invariant-loop-chunk : goal.invariant-loop-chunk
invariant-loop-chunk l = record {
  all : l.text.items ++ escape (encode_lower l.left) ≡ l.fn.text.items ++ escape (encode_lower l.bytes);
  kept : BeginsWith l.text.items l.fn.text.items;
}

abbrev pub decreases-loop-chunk : goal.decreases-loop-chunk
decreases-loop-chunk l = length l.left
