use Rattle.std.proofs.Common.{◌≡◌, ◌++◌, drop, length}
use Rattle.std.specs.List.{All}
use Rattle.pst_header.specs.Header.{end_of}
use Rattle.pst_plain.specs.Blocks.{placed_data, EndsBy}
use Rattle.pst_plain.proofs.blocks.placed_data.Given as goal

-- what is found, and what is left, from what is claimed so far, are all of it
abbrev pub invariant-loop-entry : goal.invariant-loop-entry
invariant-loop-entry l = record {
  same : length l.claims ≡ length l.fn.claims;
  all : l.found.items ++ placed_data (end_of l.header) l.claims (drop l.entry-index l.entries) ≡ placed_data (end_of l.header) l.fn.claims l.fn.entries;
  inside : All (EndsBy (end_of l.header)) l.found.items;
}
