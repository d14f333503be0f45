use Rattle.std.proofs.Common.{◌≡◌, ℕ, ◌+◌, ◌-◌, ◌≤◌, length}
use Rattle.pst_block.specs.Blocks.{table_of}
use Rattle.pst_datatree.specs.Cut.{cut}
use Rattle.pst_datatree.specs.Position.{named_left}
use Rattle.pst_datatree.proofs.pass.pass_all.Given as goal

abbrev pub invariant-loop-next : goal.invariant-loop-next
invariant-loop-next l = record {
  same : (more : ℕ) → cut l.fn.skip (l.fn.skip + more) (named_left (table_of l.blocks) l.named l.fn.at) ≡ cut l.left (l.left + more) (named_left (table_of l.blocks) l.named l.place);
  small : l.left ≤ l.fn.skip;
  fewer : length (named_left (table_of l.blocks) l.named l.place) ≤ length (named_left (table_of l.blocks) l.named l.fn.at);
}

abbrev pub decreases-loop-next : goal.decreases-loop-next
decreases-loop-next l = 65536 - l.place.child
