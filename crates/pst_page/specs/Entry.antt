-- The entries of B-tree pages, by their places in the file ([MS-PST] 2.2.2.7.7.2 to 2.2.2.7.7.4).
use Rattle.std.specs.Prelude.{ℕ, zero, suc, ◌+◌, ◌-◌, ◌%◌, ◌^◌, List}
use Rattle.pst_bytes.specs.Image.{num}
use Rattle.pst_header.specs.declared.header.Bref.{Bref}
use Rattle.pst_page.specs.declared.kind.PageKind.{PageKind}
use Rattle.pst_page.specs.declared.kind.PageKind.TheVariants.{Bbt, Nbt}
use Rattle.pst_page.specs.declared.entry.BlockEntry.{BlockEntry}
use Rattle.pst_page.specs.declared.entry.NodeEntry.{NodeEntry}

-- How many bytes an entry has at least: a branch's 24, a leaf's 24 (BBTENTRY) or 32 (NBTENTRY). An entry of level 0
-- is a leaf's.
abbrev pub entry_size : PageKind → ℕ → ℕ
entry_size Nbt zero = 32
entry_size Bbt zero = 24
entry_size kind (suc level) = 24

-- The key of a number: a block's identifier without its bit 0, a node's low 32 bits.
unfoldable pub key_of : PageKind → ℕ → ℕ
key_of Bbt number = number - number % 2
key_of Nbt number = number % 2 ^ 32

-- the key of the entry at a place: each entry begins with 8 bytes of key
unfoldable pub key_at : PageKind → List ℕ → ℕ → ℕ
key_at kind I at = key_of kind (num I at 8)

-- the page that the branch entry (BTENTRY) at a place names
unfoldable pub child_at : List ℕ → ℕ → Bref
child_at I at = record { bid = num I (at + 8) 8; ib = num I (at + 16) 8 }

-- the leaf entry of the block B-tree (BBTENTRY) at a place
unfoldable pub block_entry_at : List ℕ → ℕ → BlockEntry
block_entry_at I at = record { bid = num I at 8; ib = num I (at + 8) 8; cb = num I (at + 16) 2 }

-- the leaf entry of the node B-tree (NBTENTRY) at a place
unfoldable pub node_entry_at : List ℕ → ℕ → NodeEntry
node_entry_at I at = record {
  nid = key_of Nbt (num I at 8);
  bid_data = num I (at + 8) 8;
  bid_sub = num I (at + 16) 8;
  parent = num I (at + 24) 4;
}
