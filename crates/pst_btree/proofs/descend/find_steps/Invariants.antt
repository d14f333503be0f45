use Rattle.std.proofs.Common.{◌≡◌, ◌+◌}
use Rattle.pst_btree.specs.View.{tree_parts, bytes_of_view, entries}
use Rattle.pst_btree.proofs.DescendLemmas.{IsPath}
use Rattle.pst_btree.proofs.descend.find_steps.Given as goal

abbrev pub invariant-loop-page : goal.invariant-loop-page
invariant-loop-page l = record {
  path : IsPath l.tree.kind (bytes_of_view (tree_parts l.tree)) l.tree.end l.level l.bref l.key (entries (tree_parts l.tree));
  count : l.steps + l.level ≡ l.tree.level + 1;
}

abbrev pub decreases-loop-page : goal.decreases-loop-page
decreases-loop-page l = l.level
