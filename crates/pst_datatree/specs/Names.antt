-- Which internal blocks a data tree is made of ([MS-PST] 2.2.2.8.3.2).
use Rattle.std.specs.Prelude.{◌≡◌, ℕ, ◌<◌, true, Some, List, ◌⊎◌}
use Rattle.pst_page.specs.declared.entry.BlockEntry.{BlockEntry}
use Rattle.pst_block.specs.Block.{bid_key}
use Rattle.pst_block.specs.Table.{Table, entry_of, body_of}
use Rattle.pst_datatree.specs.Bid.{is_internal}
use Rattle.pst_datatree.specs.List.{btype_in, count_in, bid_in}

-- an identifier is that of an internal block, which the block B-tree has
abbrev pub IsInternal : Table → ℕ → BlockEntry → Type 0
IsInternal t bid e = (entry_of t bid ≡ Some e) × (is_internal bid ≡ true)

-- an entry of the body of an XBLOCK or XXBLOCK names this identifier
abbrev pub NamesBlock : List ℕ → ℕ → Type 0
NamesBlock body bid = (btype_in body ≡ 1) × ((i : ℕ) × (i < count_in body) × (bid ≡ bid_in body i))

-- a key is that of the internal block of an identifier
abbrev pub IsKeyOf : Table → ℕ → ℕ → Type 0
IsKeyOf t bid key = (e : BlockEntry) × IsInternal t bid e × (key ≡ bid_key bid)

-- a key is that of an internal block that one of the first entries of a list names
abbrev pub IsOfFirst : Table → BlockEntry → ℕ → ℕ → Type 0
IsOfFirst t holder n key = (i : ℕ) × (i < n) × IsKeyOf t (bid_in (body_of t holder) i) key

-- a key is that of an internal block that an entry's block names
abbrev pub IsChildKey : Table → BlockEntry → ℕ → Type 0
IsChildKey t e key = (next : ℕ) × NamesBlock (body_of t e) next × IsKeyOf t next key

-- a key is that of an entry's block, or of an internal block that this names
abbrev pub IsUnder : Table → BlockEntry → ℕ → Type 0
IsUnder t e key = (bid_key e.bid ≡ key) ⊎ IsChildKey t e key

-- a key is that of an internal block of the data tree of an identifier
abbrev pub IsInTree : Table → ℕ → ℕ → Type 0
IsInTree t bid key = (e : BlockEntry) × IsInternal t bid e × IsUnder t e key
