-- How many steps the walk of lists has left, at most.
use Rattle.std.specs.Prelude.{ℕ, zero, suc, ◌+◌, ◌-◌, ◌*◌, List, [], ◌∷◌, length, reverse}
use Rattle.pst_subnode.specs.declared.frame.Below.{Below}
use Rattle.pst_subnode.specs.declared.frame.Below.TheVariants.{Entries, Leaves}
use Rattle.pst_subnode.specs.declared.frame.Frame.{Frame}
use Rattle.pst_subnode.specs.declared.frame.Turn.{Turn}
use Rattle.pst_subnode.specs.declared.frame.Turn.TheVariants.{Expands, Answers}
use Rattle.pst_subnode.specs.Left.{subs_left}

-- what one thing that a list names weighs, by the rank of the list: more than any list of a lower rank, whose things are
-- fewer than 65,536
unfoldable pub unit_weight : ℕ → ℕ
unit_weight zero = 2
unit_weight (suc rank) = 65536 * unit_weight rank + 3

-- an SIBLOCK stands above its SLBLOCKs, and these above the lists of their entries
abbrev pub below_rank : ℕ → Below → ℕ
below_rank limit (Entries subs) = 2 * limit
below_rank limit (Leaves leaves) = 2 * limit + 1

-- how much of it is left
abbrev pub below_left : Below → ℕ
below_left (Entries subs) = length (subs_left subs)
below_left (Leaves leaves) = leaves.count - leaves.next

unfoldable pub frame_weight : Frame → ℕ
frame_weight f = below_left f.below * unit_weight (below_rank f.limit f.below) + 2

unfoldable pub stack_weight : List Frame → ℕ
stack_weight [] = 0
stack_weight (f ∷ below) = frame_weight f + stack_weight below

abbrev pub turn_weight : Turn → ℕ
turn_weight (Expands f) = frame_weight f
turn_weight (Answers height) = 1

-- of a stack, the last frame on top, and a turn
abbrev pub walk_weight : List Frame → Turn → ℕ
walk_weight frames turn = stack_weight (reverse frames) + turn_weight turn
