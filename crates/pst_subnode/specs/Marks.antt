-- The argument of the mark: a list that is met while it is being expanded lies below itself, and nests too deep.
use Rattle.std.specs.Prelude.{◌≡◌, ℕ, zero, suc, ◌+◌, ◌*◌, max, true, false, ◌<◌, ◌≤◌, Option, Some, None, List, if◌then◌else◌, ◌⊎◌}
use Rattle.pst_fault.specs.declared.fault.Fault.{Fault}
use Rattle.pst_fault.specs.First.{first_below}
use Rattle.pst_page.specs.declared.entry.BlockEntry.{BlockEntry}
use Rattle.pst_block.specs.Table.{Table, entry_of, body_of}
use Rattle.pst_datatree.specs.Bid.{is_no_block}
use Rattle.pst_subnode.specs.declared.sub.Sub.{Sub}
use Rattle.pst_subnode.specs.declared.heights.Heights.{Heights}
use Rattle.pst_subnode.specs.Body.{leaf_bid_in, has_level_one}
use Rattle.pst_subnode.specs.List.{list_fault}
use Rattle.pst_subnode.specs.Tree.{entry_fault, sub_fault, sub_height, nesting}
use Rattle.pst_fault.specs.Each.{first_of}
use Rattle.pst_subnode.specs.Heights.{state_of}

-- ---- what a walk is at, by the faults that it would tell there under each limit

abbrev pub at_list : Table → ℕ → ℕ → Option Fault
at_list t bid limit = sub_fault t limit bid

abbrev pub at_entries : Table → List Sub → ℕ → Option Fault
at_entries t subs limit = first_of (entry_fault t (sub_fault t limit)) subs

abbrev pub at_entry : Table → Sub → ℕ → Option Fault
at_entry t s limit = entry_fault t (sub_fault t limit) s

-- at the first SLBLOCKs of an SIBLOCK, each a list of its own
abbrev pub at_leaf : Table → BlockEntry → ℕ → ℕ → Option Fault
at_leaf t e limit i = sub_fault t limit (leaf_bid_in (body_of t e) i)

abbrev pub at_leaves : Table → BlockEntry → ℕ → ℕ → Option Fault
at_leaves t e count limit = first_below (at_leaf t e limit) count

-- the greatest of their heights; 1 where there are none
unfoldable pub most_below : (ℕ → ℕ) → ℕ → ℕ
most_below height zero = 1
most_below height (suc n) = max (most_below height n) (height n)

abbrev pub leaf_height : Table → BlockEntry → ℕ → ℕ → ℕ
leaf_height t e limit i = sub_height t limit (leaf_bid_in (body_of t e) i)

-- an identifier names a list of its own blocks without fault
pub record IsList (t : Table) (bid : ℕ) : Type 0 where
  pub named : is_no_block bid ≡ false
  pub list : list_fault t bid ≡ None

-- it names such a list that is an SIBLOCK's
pub record IsSiList (t : Table) (bid : ℕ) (e : BlockEntry) : Type 0 where
  pub is_list : IsList t bid
  pub entry : entry_of t bid ≡ Some e
  pub level : has_level_one (body_of t e) ≡ true

-- ---- from a marked list to a place

-- 1 for a list that is an SIBLOCK's, else 0
abbrev pub rank_at : Table → Option BlockEntry → ℕ
rank_at t None = 0
rank_at t (Some e) = if has_level_one (body_of t e) then 1 else 0

unfoldable pub rank_of : Table → ℕ → ℕ
rank_of t bid = rank_at t (entry_of t bid)

-- an identifier names a list of its own blocks without fault that is an SLBLOCK's
pub record IsSlblockList (t : Table) (bid : ℕ) : Type 0 where
  pub is_list : IsList t bid
  pub rank : rank_of t bid ≡ 0

-- Under each limit up to its own the walk of a list nests too deep, or comes to a place that lies further down, whose fault is
-- then its own. Further down is under a lower limit; or under the same one, from an SIBLOCK to its SLBLOCKs. The rank of a
-- place is 1 where an SIBLOCK may lie, else 0.
abbrev pub LeadsTo : Table → ℕ → ℕ → (ℕ → Option Fault) → ℕ → ℕ → Type 0
LeadsTo t bid top place rank limit =
    (low : ℕ) → low ≤ top →
    (sub_fault t low bid ≡ Some nesting)
    ⊎ ((k : ℕ) × (2 * k + rank < 2 * low + rank_of t bid) × (k ≤ limit) × ((f : Fault) → place k ≡ Some f → sub_fault t low bid ≡ Some f))

-- from each marked list the walk has come to this place, of this rank and under this limit
pub record HaveCome (t : Table) (h : Heights) (place : ℕ → Option Fault) (rank limit : ℕ) : Type 0 where
  pub from : (bid : ℕ) → state_of h bid ≡ Some 0 → (top : ℕ) × (limit ≤ top) × LeadsTo t bid top place rank limit
