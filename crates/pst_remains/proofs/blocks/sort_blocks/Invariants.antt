use Rattle.std.proofs.Common.{◌≡◌, length, map, drop}
use Rattle.pst_bytes.specs.Image.{bytes_of}
use Rattle.pst_header.specs.Header.{end_of}
use Rattle.pst_page.specs.Entry.{block_entry_at}
use Rattle.pst_remains.specs.Blocks.{blocks_left, blocks_so_far, with_blocks}
use Rattle.pst_remains.specs.Pages.{leaf_entries}
use Rattle.pst_remains.proofs.blocks.sort_blocks.Given as goal

-- what is left of the leaves, from what is found so far, gives what all of them give
abbrev pub invariant-loop-ib : goal.invariant-loop-ib
invariant-loop-ib l = record {
  left : with_blocks (end_of l.header) (bytes_of l.image) (blocks_so_far l.claims l.sorted.faults.items l.sorted.good.items) (map (block_entry_at (bytes_of l.image)) (leaf_entries (bytes_of l.image) (drop l.ib-index l.leaves)))
      ≡ blocks_left (end_of l.header) (bytes_of l.image) l.fn.claims (map (block_entry_at (bytes_of l.image)) (leaf_entries (bytes_of l.image) l.leaves));
  same : length l.claims ≡ length l.fn.claims;
}
