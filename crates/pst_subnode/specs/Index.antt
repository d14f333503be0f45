-- An index of a subnode list: of which list it is.
use Rattle.std.specs.Prelude.{◌≡◌, ℕ, ◌+◌, ⊤, Bool, true, false, not, ◌&&◌, ◌||◌, nat_lt, Option, Some, None, is_some, List, [], ◌∷◌, length, map}
use Rattle.std.specs.Global.{Vec}
use Rattle.std.specs.List.Sorted.{IsNonDecreasingBy}
use Rattle.pst_page.specs.declared.entry.BlockEntry.{BlockEntry}
use Rattle.pst_block.specs.Table.{Table, entry_of, body_of}
use Rattle.pst_btree.specs.Entries.{first_with}
use Rattle.pst_subnode.specs.declared.sub.Sub.{Sub}
use Rattle.pst_subnode.specs.declared.index.SubIndex.{SubIndex}
use Rattle.pst_subnode.specs.declared.index.TheConstants.{SHORT}
use Rattle.pst_subnode.specs.Body.{has_level_one}
use Rattle.pst_subnode.specs.List.{sub_nid, slblock_subs}

-- identifiers rise from a number on, each above the one before
unfoldable pub nids_rise : ℕ → List ℕ → Bool
nids_rise end [] = true
nids_rise end (n ∷ rest) = not (nat_lt n end) && nids_rise (n + 1) rest

-- A list is an SIBLOCK's, or an SLBLOCK's with a body of more than 400 bytes: it may have more than 16 entries.
abbrev is_long_block : Table → Option BlockEntry → Bool
is_long_block t None = false
is_long_block t (Some e) = has_level_one (body_of t e) || nat_lt SHORT (length (body_of t e))

unfoldable pub is_long_list : Table → ℕ → Bool
is_long_list t bid = is_long_block t (entry_of t bid)

-- A list is an SIBLOCK's, and so may be long, or it is an SLBLOCK's with a body of more than 400 bytes, whose identifiers do not rise:
-- halving does not find each entry.
abbrev is_unsorted : Table → BlockEntry → Bool
is_unsorted t e = nat_lt SHORT (length (body_of t e)) && not (nids_rise 0 (map sub_nid (slblock_subs t e)))

abbrev is_block_scanned : Table → Option BlockEntry → Bool
is_block_scanned t None = false
is_block_scanned t (Some e) = has_level_one (body_of t e) || is_unsorted t e

unfoldable pub is_scanned : Table → ℕ → Bool
is_scanned t bid = is_block_scanned t (entry_of t bid)

-- an index holds the entries of a list, and finds each without it
unfoldable pub is_held : SubIndex → Bool
is_held index = is_some index.entries

-- how many entries it holds
abbrev length_of : Option (Vec Sub) → ℕ
length_of None = 0
length_of (Some entries) = length entries.items

unfoldable pub held_count : SubIndex → ℕ
held_count index = length_of index.entries

-- the first with each nid is the same in both, and in both there is none where one has none
abbrev pub HasFirst : List Sub → List Sub → Type 0
HasFirst entries subs = (nid : ℕ) → first_with sub_nid nid entries ≡ first_with sub_nid nid subs

-- the entries of a list are held in the order of their nids
abbrev pub HoldsFirst : Option (Vec Sub) → List Sub → Type 0
HoldsFirst None subs = ⊤
HoldsFirst (Some entries) subs = IsNonDecreasingBy sub_nid entries.items × HasFirst entries.items subs

-- It is an index of a list with these entries. One that holds nothing is of every list.
unfoldable pub IsIndexOf : SubIndex → List Sub → Type 0
IsIndexOf index subs = HoldsFirst index.entries subs
