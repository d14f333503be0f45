use Rattle.std.proofs.Common.{◌≡◌, ◌+◌, ◌-◌}
use Rattle.pst_make.specs.Layout.{pages_for, branch_pages}
use Rattle.pst_make.proofs.layout.tree_pages.Given as goal

-- the pages so far, and those of the levels that are left
abbrev pub invariant-loop-branches : goal.invariant-loop-branches
invariant-loop-branches l = l.pages + branch_pages (15 - l.branches) l.level ≡ pages_for l.capacity l.n + branch_pages 15 (pages_for l.capacity l.n)
