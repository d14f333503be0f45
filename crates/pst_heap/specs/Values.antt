-- What a heap holds ([MS-PST] 2.3.1): the fields of its header, and its items, each by its identifier.
--
-- An identifier (HID, 2.3.1.1) has hidType, 5 bits, 0; hidIndex, 11 bits, the number of the item in its span, from 1 on; and
-- hidBlockIndex, 16 bits, the number of the span, from 0 on.
use Rattle.std.specs.Prelude.{ℕ, ◌+◌, ◌-◌, ◌/◌, ◌%◌, Bool, ◌&&◌, nat_eq, nat_le, nat_lt, List, Option, Some, None, slice_get, if◌then◌else◌}
use Rattle.pst_bytes.specs.declared.span.Span.{Span}
use Rattle.pst_bytes.specs.Image.{num}
use Rattle.pst_datatree.specs.Data.{data_spans}
use Rattle.pst_datatree.specs.Spans.{first_span}
use Rattle.pst_ndb.specs.pst_block.Table.{Table}
use Rattle.pst_ndb.specs.declared.node.Node.{Node}
use Rattle.pst_ndb.specs.Roots.{Roots}
use Rattle.pst_ndb.specs.Views.{table_of_node, roots_of}
use Rattle.pst_heap.specs.PageMap.{item_count, offset_in}

-- what a heap lies in: the bytes of the file, and the spans of a node's data
pub record HeapData : Type 0 where
  pub image : List ℕ
  pub spans : List Span

-- of a node that is named by its roots, and of a node
abbrev pub heap_at : Table → Roots → HeapData
heap_at t r = record { image = t.image; spans = data_spans t r.bid_data }

abbrev pub data_of_node : Node → HeapData
data_of_node node = heap_at (table_of_node node) (roots_of node)

-- ---- the header, in the first span

-- bClientSig
abbrev pub client_of : HeapData → ℕ
client_of h = num h.image ((first_span h.spans).at + 3) 1

-- where hidUserRoot stands, and what it is
abbrev pub user_root_place : HeapData → ℕ
user_root_place h = (first_span h.spans).at + 4

abbrev pub user_root_of : HeapData → ℕ
user_root_of h = num h.image (user_root_place h) 4

-- ---- the items

-- hidIndex
abbrev pub index_of : ℕ → ℕ
index_of hid = hid / 32 % 2048

-- hidBlockIndex
abbrev pub block_of : ℕ → ℕ
block_of hid = hid / 65536

-- hidType is a heap's, and there is an item with that number in the span
abbrev pub names_item : List ℕ → Span → ℕ → Bool
names_item I s hid = nat_eq (hid % 32) 0 && nat_lt 0 (index_of hid) && nat_le (index_of hid) (item_count I s)

-- from its offset up to the next one
abbrev pub item_span : List ℕ → Span → ℕ → Span
item_span I s i = record { at = s.at + offset_in I s (i - 1); len = offset_in I s i - offset_in I s (i - 1) }

-- the item of a span, where there is one
unfoldable pub item_in : List ℕ → ℕ → Option Span → Option Span
item_in I hid None = None
item_in I hid (Some s) = if names_item I s hid then Some (item_span I s (index_of hid)) else None

-- the span of an item; None where the identifier names none
unfoldable pub item_of : HeapData → ℕ → Option Span
item_of h hid = item_in h.image hid (slice_get h.spans (block_of hid))
