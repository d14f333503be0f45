use Rattle.std.proofs.Common.{◌≡◌}
use Rattle.pst_bytes.specs.Image.{bytes_of}
use Rattle.pst_btree.specs.Find.{rest_from}
use Rattle.pst_btree.specs.Tree.{entries_of, tree_at}
use Rattle.pst_btree.proofs.FindLemmas.{below_from}
use Rattle.pst_btree.proofs.FromLemmas.{AreKept}
use Rattle.pst_btree.proofs.nodes.+stretch_below.Given as goal

abbrev pub decreases-stretch_below : goal.decreases-stretch_below
decreases-stretch_below l = l.level

abbrev pub invariant-loop-i : goal.invariant-loop-i
invariant-loop-i l = record {
  kept : AreKept l.kind (bytes_of l.image) l.end l.below l.fn.bref.ib l.i;
  left : rest_from l.kind (bytes_of l.image) l.low (below_from l.kind (bytes_of l.image) l.below l.fn.bref.ib l.i) ≡ rest_from l.kind (bytes_of l.image) l.low (entries_of (tree_at l.kind (bytes_of l.image) l.level l.fn.bref));
}
