use Rattle.std.proofs.Common.{◌≡◌, ◌++◌}
use Rattle.std.specs.List.{concat}
use Rattle.hex.specs.Hex.{encode_lower}
use Rattle.pst_datatree.specs.Left.{slices_left}
use Rattle.pst_text.proofs.docs.put_pieces.Given as goal

-- the digits so far, with those of what is left
abbrev pub invariant-loop-piece : goal.invariant-loop-piece
invariant-loop-piece l = l.digits.items ++ encode_lower (concat (slices_left l.piece-iterator)) ≡ l.fn.digits.items ++ encode_lower (concat (slices_left l.fn.pieces))
