use Rattle.std.proofs.Common.{◌≡◌, length}
use Rattle.pst_tree_tests.proofs.maps.compared.Given as goal

abbrev pub invariant-loop-at : goal.invariant-loop-at
invariant-loop-at g l = length l.claims ≡ length l.initial.claims
