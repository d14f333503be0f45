-- What is known of subnode lists, and what is counted.
use Rattle.std.specs.Prelude.{◌≡◌, ℕ, ◌<◌, Option, Some, None, List, length}
use Rattle.std.specs.Map.{keys_of}
use Rattle.pst_block.specs.Block.{bid_key}
use Rattle.pst_block.specs.Table.{Table}
use Rattle.pst_datatree.specs.Seen.{raised}
use Rattle.pst_subnode.specs.declared.heights.Heights.{Heights}
use Rattle.pst_subnode.specs.Ranges.{AreRangesTrue}
use Rattle.pst_subnode.specs.States.{state_in}
use Rattle.pst_subnode.specs.Tree.{sub_fault, sub_height}

-- how many blocks of lists have been expanded
abbrev pub list_expansions : Heights → ℕ
list_expansions h = h.expansions

-- the keys of the lists that are known, marked ones among them
abbrev pub list_keys : Heights → List ℕ
list_keys h = keys_of h.states.entries

-- what is known of the list with a key: 0 marks it while it is being expanded, any other number is its height
unfoldable pub state_at : Heights → ℕ → Option ℕ
state_at h key = state_in h.states key

-- of the list of an identifier, whose bit 0 says nothing
abbrev pub state_of : Heights → ℕ → Option ℕ
state_of h bid = state_at h (bid_key bid)

-- a list has this height
abbrev pub HasHeight : Table → ℕ → ℕ → Type 0
HasHeight t bid height = (limit : ℕ) × (sub_fault t limit bid ≡ None) × (sub_height t limit bid ≡ height)

-- each height is true, and so is what is known of the identifiers in SLBLOCKs
pub record AreTrue (t : Table) (h : Heights) : Type 0 where
  pub holds : (bid height : ℕ) → 0 < height → state_of h bid ≡ Some height → HasHeight t bid height
  pub ranges : AreRangesTrue t h.ranges

-- nothing is marked
abbrev pub NoMarks : Heights → Type 0
NoMarks h = (bid : ℕ) → state_of h bid ≡ Some 0 → ⊥

-- What is known between two calls is true: each height and each range of identifiers, and nothing is marked.
pub record AreHeightsTrue (t : Table) (h : Heights) : Type 0 where
  pub heights : AreTrue t h
  pub unmarked : NoMarks h

-- nothing more is marked
abbrev pub NoNewMarks : Heights → Heights → Type 0
NoNewMarks old new = (bid : ℕ) → state_of new bid ≡ Some 0 → state_of old bid ≡ Some 0

-- ---- what is counted

-- how many lists are known, marked ones among them
abbrev pub known_lists : Heights → ℕ
known_lists h = length h.states.entries

-- the blocks that were expanded are those that are known
abbrev pub AreHeightsCounted : Heights → Type 0
AreHeightsCounted h = list_expansions h ≡ raised (known_lists h) 0

-- the same heights and marks, and the same count
pub record AreAlike (old new : Heights) : Type 0 where
  pub states : new.states ≡ old.states
  pub count : list_expansions new ≡ list_expansions old
