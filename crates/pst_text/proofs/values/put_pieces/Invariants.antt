use Rattle.std.proofs.Common.{◌≡◌, ◌++◌}
use Rattle.std.specs.List.{concat}
use Rattle.hex.specs.Hex.{encode_lower}
use Rattle.json.specs.Print.{escape}
use Rattle.pst_datatree.specs.Left.{slices_left}
use Rattle.pst_text.specs.Kept.{BeginsWith}
use Rattle.pst_text.proofs.values.put_pieces.Given as goal

-- the text so far, with that of what is left
abbrev pub invariant-loop-piece : goal.invariant-loop-piece
invariant-loop-piece l = record {
  all : l.text.items ++ escape (encode_lower (concat (slices_left l.piece-iterator))) ≡ l.initial.text.items ++ escape (encode_lower (concat (slices_left l.fn.pieces)));
  kept : BeginsWith l.text.items l.fn.text.items;
}
