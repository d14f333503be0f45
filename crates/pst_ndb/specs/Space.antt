-- The space that a file uses: what its pages and blocks claim, one after another.
use Rattle.std.specs.Prelude.{ℕ, List, ◌++◌, Option, Some, Ok, Err}
use Rattle.pst_bytes.specs.declared.span.Span.{Span}
use Rattle.pst_fault.specs.declared.fault.Fault.{Fault}
use Rattle.pst_header.specs.declared.header.Header.{Header}
use Rattle.pst_header.specs.Header.{end_of}
use Rattle.pst_space.specs.Claimed.{Claimed, maps_claimed, with_spans}
use Rattle.pst_space.specs.Step.{Step, ◌>>=◌}
use Rattle.pst_block.specs.Walk.{blocks_walk, block_spans}
use Rattle.pst_amap.specs.Report.{maps_fault}
use Rattle.pst_ndb.specs.Entries.{block_list}
use Rattle.pst_ndb.specs.Trees.{trees_walk, trees_spans}

-- What is claimed once all pages and blocks are, from what is claimed before; or the first fault. The pages of both trees
-- come first, then the blocks in order of their keys.
unfoldable pub space_walk : List ℕ → Header → Claimed → Step Claimed
space_walk I h claimed = do
  trees ← trees_walk I h claimed
  blocks_walk (end_of h) I trees.claimed (block_list I h)

-- the spans of all pages and blocks, in that order
unfoldable pub space_spans : List ℕ → Header → List Span
space_spans I h = trees_spans I h ++ block_spans (block_list I h)

-- what is claimed in the end, the map pages too
abbrev pub space_claimed : List ℕ → Header → Claimed
space_claimed I h = with_spans (maps_claimed h) (space_spans I h)

-- the fault of a step, or of what comes after it
abbrev pub fault_after : (Claimed → Option Fault) → Step Claimed → Option Fault
fault_after rest (Ok claimed) = rest claimed
fault_after rest (Err stop) = Some stop.1

-- The first fault of the pages and blocks, and then of the allocation maps. Before the first page, the map pages are claimed.
unfoldable pub space_fault : List ℕ → Header → Option Fault
space_fault I h = fault_after (maps_fault I h) (space_walk I h (maps_claimed h))
