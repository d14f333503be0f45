use Rattle.std.proofs.Common.{◌≡◌, ℕ, ◌*◌, ◌<◌, ◌≤◌, true, None}
use Rattle.pst_block.specs.Table.{body_of}
use Rattle.pst_block.specs.Blocks.{table_of}
use Rattle.pst_fault.specs.First.{first_below, join_below}
use Rattle.pst_datatree.specs.Data.{size_of, child_spans, child_fault}
use Rattle.pst_datatree.specs.List.{bid_in}
use Rattle.pst_datatree.specs.Seen.{tree_expansions, has_tree, IsSeenTrue, AddsTrees, KeepsCount, NoNewTwo}
use Rattle.pst_datatree.specs.Names.{IsOfFirst}
use Rattle.pst_datatree.proofs.lengths.children_len.Given as goal

abbrev pub invariant-loop-i : goal.invariant-loop-i
invariant-loop-i l = record {
  sound : first_below (child_fault (table_of l.blocks) l.holder) l.i ≡ None;
  counted : l.total ≡ size_of (join_below (child_spans (table_of l.blocks) (body_of (table_of l.blocks) l.holder)) l.i);
  small : l.total ≤ 4294967296 * l.i;
  known : IsSeenTrue (table_of l.blocks) l.seen;
  counts : KeepsCount l.initial.seen l.seen;
  levels : NoNewTwo (table_of l.blocks) l.initial.seen l.seen;
  adds : AddsTrees (table_of l.blocks) (IsOfFirst (table_of l.blocks) l.holder l.count) l.initial.seen l.seen;
  there : (j : ℕ) → j < l.i → has_tree l.seen (bid_in (body_of (table_of l.blocks) l.holder) j) ≡ true;
  grows : tree_expansions l.initial.seen ≤ tree_expansions l.seen;
}
