-- The blocks of a file as a table: the file's bytes, and the entries of its block B-tree.
use Rattle.std.specs.Prelude.{ℕ, ◌+◌, ◌≤◌, ◌≡◌, List, length, Option, Some}
use Rattle.pst_bytes.specs.Image.{bytes_at}
use Rattle.pst_page.specs.declared.entry.BlockEntry.{BlockEntry}
use Rattle.pst_btree.specs.Entries.{block_with}
use Rattle.pst_block.specs.Block.{body_span, bid_key}

pub record Table : Type 0 where
  pub image : List ℕ
  pub entries : List BlockEntry

abbrev pub table_with : List ℕ → List BlockEntry → Table
table_with I entries = record { image = I; entries = entries }

-- the entry of a block, by its identifier with its bit 0 ignored
unfoldable pub entry_of : Table → ℕ → Option BlockEntry
entry_of t bid = block_with (bid_key bid) t.entries

-- the body of an entry's block
unfoldable pub body_of : Table → BlockEntry → List ℕ
body_of t e = bytes_at t.image (body_span e)

-- the body lies in the file
abbrev pub IsWithin : List ℕ → BlockEntry → Type 0
IsWithin I e = e.ib + e.cb ≤ length I

-- the body of each block lies in the file
abbrev pub AreWithin : Table → Type 0
AreWithin t = (bid : ℕ) (e : BlockEntry) → entry_of t bid ≡ Some e → IsWithin t.image e
