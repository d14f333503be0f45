use Rattle.std.proofs.Common.{◌≡◌, reverse}
use Rattle.pst_reach.specs.Path.{path_above, path_to}
use Rattle.pst_reach.proofs.paths.path_of.Given as goal

-- what is above the folder that was come to, and what is below it, is the path
abbrev pub invariant-loop-depth : goal.invariant-loop-depth
invariant-loop-depth l = path_above l.reached l.depth l.nid (reverse l.path.items) ≡ path_to l.reached l.fn.last

abbrev pub decreases-loop-depth : goal.decreases-loop-depth
decreases-loop-depth l = l.depth
