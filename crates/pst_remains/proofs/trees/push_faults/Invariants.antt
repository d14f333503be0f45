use Rattle.std.proofs.Common.{◌≡◌, ◌++◌, drop}
use Rattle.pst_remains.specs.Pages.{faults_of}
use Rattle.pst_remains.proofs.trees.push_faults.Given as goal

abbrev pub invariant-loop-page : goal.invariant-loop-page
invariant-loop-page l = l.faults.items ++ faults_of (drop l.page-index l.broken) ≡ l.fn.faults.items ++ faults_of l.broken
