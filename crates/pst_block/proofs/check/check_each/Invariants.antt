use Rattle.std.proofs.Common.{◌≡◌, length, drop}
use Rattle.pst_bytes.specs.Image.{bytes_of}
use Rattle.pst_header.specs.Header.{end_of}
use Rattle.pst_block.specs.Walk.{blocks_walk}
use Rattle.pst_block.proofs.check.check_each.Given as goal

-- What is left of the walk, from what is claimed so far, is the whole walk. Each block so far was summed.
abbrev pub invariant-loop-entry : goal.invariant-loop-entry
invariant-loop-entry l = record {
  same : length l.claims ≡ length l.fn.claims;
  ends : blocks_walk (end_of l.header) (bytes_of l.image) l.claims (drop l.entry-index l.entries) ≡ blocks_walk (end_of l.header) (bytes_of l.image) l.fn.claims l.entries;
  counted : l.sums ≡ l.entry-index;
}
