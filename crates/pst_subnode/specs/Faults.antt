-- The faults that were met below lists of subnodes, by the identifiers of lists and of data as they are written.
use Rattle.std.specs.Prelude.{◌≡◌, ℕ, ◌≤◌, Bool, true, Option, Some, None}
use Rattle.std.specs.Ordering.{nat_cmp}
use Rattle.std.specs.BTreeMap.{get}
use Rattle.std.specs.BTreeSet.{contains}
use Rattle.pst_fault.specs.declared.fault.Fault.{Fault}
use Rattle.pst_block.specs.Table.{Table}
use Rattle.pst_datatree.specs.Data.{data_fault}
use Rattle.pst_subnode.specs.declared.faults.Found.{Found}
use Rattle.pst_subnode.specs.declared.faults.SubFaults.{SubFaults}
use Rattle.pst_subnode.specs.List.{list_fault}
use Rattle.pst_subnode.specs.Tree.{nesting, sub_fault}

-- what is remembered of a list: a fault of it, or of what lies below it
unfoldable pub found_of : SubFaults → ℕ → Option Found
found_of k bid = get nat_cmp k.lists bid

-- how many lists might nest where they nested too deep
unfoldable pub deep_of : SubFaults → ℕ → Option ℕ
deep_of k bid = get nat_cmp k.deep bid

-- and of the data of a subnode
unfoldable pub content_of : SubFaults → ℕ → Option Fault
content_of k bid = get nat_cmp k.content bid

-- and whether the own blocks of a list are remembered to have none
unfoldable pub has_whole : SubFaults → ℕ → Bool
has_whole k bid = contains nat_cmp k.whole bid

-- a list has this fault wherever so many lists may nest, or more
abbrev pub IsFoundIn : Table → ℕ → Found → Type 0
IsFoundIn t bid x = (limit : ℕ) → x.least ≤ limit → sub_fault t limit bid ≡ Some x.fault

-- lists nest too deep wherever so many may, or fewer
abbrev pub IsDeep : Table → ℕ → ℕ → Type 0
IsDeep t bid most = (limit : ℕ) → limit ≤ most → sub_fault t limit bid ≡ Some nesting

-- What is remembered is true.
pub record AreSubFaultsTrue (t : Table) (k : SubFaults) : Type 0 where
  pub lists : (bid : ℕ) (x : Found) → found_of k bid ≡ Some x → IsFoundIn t bid x
  pub deep : (bid most : ℕ) → deep_of k bid ≡ Some most → IsDeep t bid most
  pub content : (bid : ℕ) (f : Fault) → content_of k bid ≡ Some f → data_fault t bid ≡ Some f
  pub whole : (bid : ℕ) → has_whole k bid ≡ true → list_fault t bid ≡ None
