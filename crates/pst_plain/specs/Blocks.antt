-- Which blocks of a file are encoded, where it is.
use Rattle.std.specs.Prelude.{ℕ, ◌+◌, ◌/◌, ◌%◌, ◌≤◌, Bool, ◌&&◌, nat_eq, nat_le, List, [], ◌∷◌, map, Option, Some, None, option_and_then, Result, Ok, Err, if◌then◌else◌}
use Rattle.std.specs.List.{filter}
use Rattle.pst_bytes.specs.declared.span.Span.{Span}
use Rattle.pst_fault.specs.declared.fault.Fault.{Fault}
use Rattle.pst_fault.specs.First.{answer}
use Rattle.pst_header.specs.declared.header.Header.{Header}
use Rattle.pst_header.specs.Header.{header_fault, fields, end_of}
use Rattle.pst_header.specs.Place.{is_place}
use Rattle.pst_space.specs.Claimed.{Claimed, claim_of, maps_claimed}
use Rattle.pst_space.specs.Step.{Step, ◌>>=◌}
use Rattle.pst_page.specs.declared.kind.PageKind.TheVariants.{Bbt, Nbt}
use Rattle.pst_page.specs.declared.entry.BlockEntry.{BlockEntry}
use Rattle.pst_page.specs.Entry.{block_entry_at}
use Rattle.pst_btree.specs.Walk.{tree_walk}
use Rattle.pst_block.specs.Block.{block_size, block_span}

-- the identifier of a data block, whose bit 1 is clear ([MS-PST] 2.2.2.2)
abbrev pub is_data : ℕ → Bool
is_data bid = nat_eq (bid / 2 % 2) 0

abbrev pub has_data : BlockEntry → Bool
has_data e = is_data e.bid

-- the bytes of a block, where one may lie there: its body has at most 8,176 bytes, and it lies in the mapped part (2.2.2.8)
unfoldable pub block_place : ℕ → BlockEntry → Option Span
block_place end e = if nat_le e.cb 8176 && is_place end (block_span e) then Some (block_span e) else None

-- what is claimed with a block that lies where one may, and on nothing that is claimed
unfoldable pub claimed_with : ℕ → Claimed → BlockEntry → Option Claimed
claimed_with end claimed e = option_and_then (claim_of claimed) (block_place end e)

abbrev pub then_placed : BlockEntry → (Claimed → List BlockEntry) → Option Claimed → List BlockEntry
then_placed e later None = []
then_placed e later (Some more) = e ∷ later more

-- the blocks before the first that does not lie where a block may, or overlaps what is claimed or a block before it
unfoldable pub placed : ℕ → Claimed → List BlockEntry → List BlockEntry
placed end claimed [] = []
placed end claimed (e ∷ rest) = then_placed e (λ more. placed end more rest) (claimed_with end claimed e)

-- the data blocks among them
abbrev pub placed_data : ℕ → Claimed → List BlockEntry → List BlockEntry
placed_data end claimed entries = filter has_data (placed end claimed entries)

-- ---- of a file

-- what the walks of both trees find: what is claimed then, and the entries of the block B-tree from left to right
pub record Listed : Type 0 where
  pub claimed : Claimed
  pub entries : List BlockEntry

-- the walks of both trees under a header, from what is claimed before
unfoldable pub trees_listed : List ℕ → Header → Claimed → Step Listed
trees_listed I h claimed = do
  blocks ← tree_walk Bbt I (end_of h) claimed h.bbt
  nodes ← tree_walk Nbt I (end_of h) blocks.claimed h.nbt
  Ok (record { claimed = nodes.claimed; entries = map (block_entry_at I) blocks.entries })

-- the data blocks that are placed after them; none where one of them has a fault
abbrev pub data_after : ℕ → Step Listed → List BlockEntry
data_after end (Ok found) = placed_data end found.claimed found.entries
data_after end (Err stop) = []

-- under a header; before the first page, the map pages are claimed
unfoldable pub data_under : List ℕ → Header → List BlockEntry
data_under I h = data_after (end_of h) (trees_listed I h (maps_claimed h))

abbrev pub data_if : List ℕ → Result Header Fault → List BlockEntry
data_if I (Ok h) = data_under I h
data_if I (Err f) = []

-- The data blocks of a file in the order of their keys, up to the first block that does not lie where a block may or
-- overlaps what stands before it; none where the header or one of the trees has a fault.
unfoldable pub data_blocks : List ℕ → List BlockEntry
data_blocks I = data_if I (answer (header_fault I) (fields I))

-- a block ends by a place
abbrev pub EndsBy : ℕ → BlockEntry → Type 0
EndsBy end e = e.ib + block_size e.cb ≤ end
