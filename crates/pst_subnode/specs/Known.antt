-- What is known of data trees and of subnode lists together, and what a walk adds to it.
use Rattle.std.specs.Prelude.{◌≡◌, ℕ, ◌<◌, true, Some, List, ◌⊎◌}
use Rattle.std.specs.List.{Contains}
use Rattle.pst_page.specs.declared.entry.BlockEntry.{BlockEntry}
use Rattle.pst_block.specs.Table.{Table, body_of}
use Rattle.pst_datatree.specs.declared.seen.Seen.{Seen}
use Rattle.pst_datatree.specs.Names.{IsInternal}
use Rattle.pst_datatree.specs.Seen as trees
use Rattle.pst_subnode.specs.declared.sub.Sub.{Sub}
use Rattle.pst_subnode.specs.declared.heights.Heights.{Heights}
use Rattle.pst_subnode.specs.Body.{leaf_bid_in}
use Rattle.pst_subnode.specs.Heights.{AreHeightsTrue, state_at, state_of}
use Rattle.pst_subnode.specs.Reach.{NamesNext, Leads, IsReached}

-- What is known of data trees and of lists is true, and no list is marked.
pub record AreBothTrue (t : Table) (s : Seen) (h : Heights) : Type 0 where
  pub trees : trees.IsSeenTrue t s
  pub lists : AreHeightsTrue t h

-- the height of the list of an identifier is known
abbrev pub HasKnownHeight : Heights → ℕ → Type 0
HasKnownHeight h bid = (height : ℕ) × (0 < height) × (state_of h bid ≡ Some height)

-- the internal block of an identifier is known: as that of a data tree, or as that of a list
abbrev pub IsKnownBlock : Seen → Heights → ℕ → Type 0
IsKnownBlock s h bid = (trees.has_tree s bid ≡ true) ⊎ HasKnownHeight h bid

-- With each block that is known all internal blocks are known that it names.
pub record AreClosed (t : Table) (s : Seen) (h : Heights) : Type 0 where
  pub trees : trees.IsClosed t s
  pub lists : (bid next : ℕ) (e : BlockEntry) → HasKnownHeight h bid → NamesNext t bid next → IsInternal t next e → IsKnownBlock s h next

-- A chain leads to each block that is known, or marked.
pub record AreReached (t : Table) (from : List ℕ) (s : Seen) (h : Heights) : Type 0 where
  pub trees : (key : ℕ) → trees.holds_tree s key ≡ true → IsReached t from key
  pub lists : (key state : ℕ) → state_at h key ≡ Some state → IsReached t from key

-- What was known is known still, marks among it; what is known stays closed; and chains lead to what is new, if they lead to
-- where the walk began.
pub record Adds (t : Table) (AreLed : List ℕ → Type 0) (s : Seen) (h : Heights) (s' : Seen) (h' : Heights) : Type 0 where
  pub trees : (key : ℕ) → trees.holds_tree s key ≡ true → trees.holds_tree s' key ≡ true
  pub lists : (key state : ℕ) → state_at h key ≡ Some state → state_at h' key ≡ Some state
  pub closed : AreClosed t s h → AreClosed t s' h'
  pub reached : (from : List ℕ) → AreLed from → AreReached t from s h → AreReached t from s' h'

-- the list of an identifier is known, if it is an internal block that the block B-tree has
abbrev pub IsKnownList : Table → Heights → ℕ → Type 0
IsKnownList t h bid = (e : BlockEntry) → IsInternal t bid e → HasKnownHeight h bid

-- what an entry names is known
abbrev pub IsKnownEntry : Table → Seen → Heights → Sub → Type 0
IsKnownEntry t s h sub = trees.IsKnownTree t s sub.bid_data × IsKnownList t h sub.bid_sub

-- chains lead to what an entry names
abbrev pub AreLedTo : Table → List ℕ → Sub → Type 0
AreLedTo t from sub = Leads t from sub.bid_data × Leads t from sub.bid_sub

abbrev pub AreLedEach : Table → List Sub → List ℕ → Type 0
AreLedEach t subs from = (sub : Sub) → Contains subs sub → AreLedTo t from sub

abbrev pub AreKnownEach : Table → Seen → Heights → List Sub → Type 0
AreKnownEach t s h subs = (sub : Sub) → Contains subs sub → IsKnownEntry t s h sub

-- and to the first SLBLOCKs of an SIBLOCK
abbrev pub AreLedBelow : Table → BlockEntry → ℕ → List ℕ → Type 0
AreLedBelow t e count from = (i : ℕ) → i < count → Leads t from (leaf_bid_in (body_of t e) i)

abbrev pub AreKnownBelow : Table → Heights → BlockEntry → ℕ → Type 0
AreKnownBelow t h e count = (i : ℕ) → i < count → IsKnownList t h (leaf_bid_in (body_of t e) i)

-- entries are known, or still to come
abbrev pub AreKnownOr : Table → Seen → Heights → List Sub → List Sub → Type 0
AreKnownOr t s h xs rest = (sub : Sub) → Contains xs sub → IsKnownEntry t s h sub ⊎ Contains rest sub
