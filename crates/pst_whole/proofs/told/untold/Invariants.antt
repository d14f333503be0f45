use Rattle.std.proofs.Common.{◌≡◌, ◌++◌, drop}
use Rattle.pst_btree.specs.Lists.{nodes_in_list}
use Rattle.pst_damage.specs.Judged.{Judged, sound_by, broken_by}
use Rattle.pst_whole.proofs.told.untold.Given as goal

-- the nodes of which nothing is told so far, and what is left of both
abbrev pub invariant-loop-entry : goal.invariant-loop-entry
invariant-loop-entry l = record {
  items : l.entry-items ≡ nodes_in_list l.fn.nodes;
  told : (part : Judged) → l.told ≡ broken_by part (nodes_in_list l.fn.nodes) → drop l.next l.told ≡ broken_by part (drop l.entry-index l.entry-items);
  kept : (part : Judged) → l.told ≡ broken_by part (nodes_in_list l.fn.nodes) → l.whole.items ++ sound_by part (drop l.entry-index l.entry-items) ≡ sound_by part (nodes_in_list l.fn.nodes);
}
