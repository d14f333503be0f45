-- An index of a list of subnodes: of which list it is.
use Rattle.std.specs.Prelude.{◌≡◌, ℕ}
use Rattle.pst_block.specs.Block.{bid_key}
use Rattle.pst_block.specs.Table.{Table}
use Rattle.pst_subnode.specs.declared.index.SubIndex.{SubIndex}
use Rattle.pst_subnode.specs.Index.{IsIndexOf}
use Rattle.pst_subnode.specs.List.{subs_of}
use Rattle.pst_remembered.specs.declared.list_index.ListIndex.{ListIndex}

abbrev pub index_in : ListIndex → SubIndex
index_in i = i.index

-- among these blocks it is an index of each list with its identifier, bit 0 cleared
unfoldable pub IsIndexIn : Table → ListIndex → Type 0
IsIndexIn t i = (bid : ℕ) → bid_key bid ≡ i.list → IsIndexOf i.index (subs_of t bid)
