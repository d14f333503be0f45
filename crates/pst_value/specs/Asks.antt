-- What a context asks of the list of subnodes of its node. Whether a value has a fault depends on that list only where an HNID names
-- a subnode: on whether it is there, and on how many bytes its data has. So what was found by one list is known for every list that
-- answers the same.
use Rattle.std.specs.Prelude.{◌≡◌, ℕ, Bool, true, false, ◌&&◌, nat_eq, List, [], ◌∷◌, Option, Some, None}
use Rattle.pst_block.specs.Block.{bid_key}
use Rattle.pst_block.specs.Table.{Table}
use Rattle.pst_datatree.specs.Data.{size_of}
use Rattle.pst_ndb.specs.Roots.{Roots, subnode_of}
use Rattle.pst_value.specs.Values.{node_spans}
use Rattle.pst_value.specs.Fault.{is_length}

-- ---- what is asked

-- roots that name the same data: bit 0 says nothing
abbrev pub SameData : Roots → Roots → Type 0
SameData r s = bid_key r.bid_data ≡ bid_key s.bid_data

-- a subnode is there, and its data has a length that a type allows
abbrev pub fits : Table → ℕ → Option Roots → Bool
fits t kind None = false
fits t kind (Some s) = is_length kind (size_of (node_spans t s))

unfoldable pub is_fitting : Table → Roots → ℕ × ℕ → Bool
is_fitting t r a = fits t a.1 (subnode_of t r a.0)

-- each of them, by its identifier and the type of a value that lies there
abbrev pub all_fit : Table → Roots → List (ℕ × ℕ) → Bool
all_fit t r [] = true
all_fit t r (a ∷ rest) = is_fitting t r a && all_fit t r rest

-- a subnode is there, and its data begins with this block, bit 0 cleared
abbrev pub has_block : ℕ → Option Roots → Bool
has_block block None = false
has_block block (Some s) = nat_eq (bid_key s.bid_data) block

abbrev pub has_matrix : Table → Roots → Option (ℕ × ℕ) → Bool
has_matrix t r None = true
has_matrix t r (Some a) = has_block a.1 (subnode_of t r a.0)
