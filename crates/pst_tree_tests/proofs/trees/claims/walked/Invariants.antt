use Rattle.std.proofs.Common.{◌≡◌, length}
use Rattle.pst_tree_tests.proofs.trees.claims.walked.Given as goal

abbrev pub invariant-loop-walk : goal.invariant-loop-walk
invariant-loop-walk g l = length l.claims ≡ length l.initial.claims
