use Rattle.std.proofs.Common.{◌≡◌, ◌++◌}
use Rattle.std.specs.List.{concat}
use Rattle.pst_datatree.specs.Left.{slices_left}
use Rattle.pst_text.proofs.utf16.joined.Given as goal

-- the bytes so far, with those of what is left
abbrev pub invariant-loop-piece : goal.invariant-loop-piece
invariant-loop-piece l = l.bytes.items ++ concat (slices_left l.piece-iterator) ≡ concat (slices_left l.fn.pieces)
