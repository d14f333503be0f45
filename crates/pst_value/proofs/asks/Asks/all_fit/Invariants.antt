use Rattle.std.proofs.Common.{◌≡◌, length}
use Rattle.std.specs.BTreeSet.{keys}
use Rattle.pst_ndb.specs.Views.{table_of_node, roots_of}
use Rattle.pst_value.specs.Asks.{all_fit}
use Rattle.pst_value.proofs.asks.Asks.all_fit.Given as goal

abbrev pub decreases-loop-ask : goal.decreases-loop-ask
decreases-loop-ask l = length l.rest

abbrev pub invariant-loop-ask : goal.invariant-loop-ask
invariant-loop-ask l = all_fit (table_of_node l.node) (roots_of l.node) l.rest ≡ all_fit (table_of_node l.node) (roots_of l.node) (keys l.self.values)
