use Rattle.std.proofs.Common.{length}
use Rattle.std.specs.List.{All}
use Rattle.pst_make.specs.Layout.{IsPageBelow}
use Rattle.pst_make.proofs.pages.write_tree.Given as goal

abbrev pub invariant-loop-level : goal.invariant-loop-level
invariant-loop-level l = All (IsPageBelow (length l.image)) l.pages
