-- Indexes of the lists of subnodes that are asked about: of which list each is.
use mathlib.Core.HLevel.{Unit-prop}
use Rattle.std.proofs.Props.{props}
use Rattle.std.specs.Prelude.{◌≡◌, ℕ, Option, Some, None, List}
use Rattle.std.specs.BTreeMap.{get}
use Rattle.std.specs.Global.{Vec}
use Rattle.std.specs.Ordering.{nat_cmp}
use Rattle.pst_block.specs.Block.{bid_key}
use Rattle.pst_block.specs.Table.{Table}
use Rattle.pst_subnode.specs.declared.index.SubIndex.{SubIndex}
use Rattle.pst_subnode.specs.declared.sub.Sub.{Sub}
use Rattle.pst_subnode.specs.Index.{HoldsFirst, IsIndexOf}
use Rattle.pst_subnode.specs.List.{subs_of}
use Rattle.pst_ndb.specs.declared.sub_indexes.SubIndexes.{SubIndexes}

-- among these blocks an index of each list with this identifier, bit 0 cleared
abbrev pub IsIndexUnder : Table → ℕ → SubIndex → Type 0
IsIndexUnder t list index = (bid : ℕ) → bid_key bid ≡ list → IsIndexOf index (subs_of t bid)

-- each is one of the list under whose identifier it is kept
unfoldable pub AreSubIndexes : Table → SubIndexes → Type 0
AreSubIndexes t i = (list : ℕ) (index : SubIndex) → get nat_cmp i.indexes list ≡ Some index → IsIndexUnder t list index

-- which has one proof, so a struct may keep it
holds_fact : (entries : Option (Vec Sub)) (subs : List Sub) → IsProp (HoldsFirst entries subs)
holds_fact None subs = Unit-prop
holds_fact (Some entries) subs = hlevel props

index_fact : (index : SubIndex) (subs : List Sub) → IsProp (IsIndexOf index subs)
unfolding IsIndexOf
index_fact index subs = holds_fact index.entries subs

pub AreSubIndexes-prop : (t : Table) (i : SubIndexes) → IsProp (AreSubIndexes t i)
unfolding AreSubIndexes
AreSubIndexes-prop t i = hlevel (props, index_fact)
