use Rattle.std.proofs.Common.{◌≡◌, length, map}
use Rattle.pst_bytes.specs.Image.{bytes_of}
use Rattle.pst_header.specs.Header.{end_of}
use Rattle.pst_page.specs.Entry.{block_entry_at}
use Rattle.pst_page.specs.Page.{entries_at, entries_from}
use Rattle.pst_remains.specs.Blocks.{blocks_so_far, with_blocks}
use Rattle.pst_remains.proofs.blocks.enter_page.Given as goal

-- what is left of the entries, from what is found so far, gives what all of them give
abbrev pub invariant-loop-i : goal.invariant-loop-i
invariant-loop-i l = record {
  left : with_blocks (end_of l.header) (bytes_of l.image) (blocks_so_far l.claims l.sorted.faults.items l.sorted.good.items) (map (block_entry_at (bytes_of l.image)) (entries_from (bytes_of l.image) l.page.bref.ib l.i))
      ≡ with_blocks (end_of l.header) (bytes_of l.image) (blocks_so_far l.fn.claims l.fn.sorted.faults.items l.fn.sorted.good.items) (map (block_entry_at (bytes_of l.image)) (entries_at (bytes_of l.image) l.page.bref.ib));
  same : length l.claims ≡ length l.fn.claims;
}
