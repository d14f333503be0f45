-- An index of the spans of a node's data: of which data it is.
use mathlib.Core.HLevel.{Unit-prop}
use Rattle.std.proofs.Props.{props}
use Rattle.std.specs.Prelude.{◌≡◌, ℕ, ◌^◌, ◌<◌, ◌≤◌, ⊤, Bool, nat_lt, Option, Some, None, is_some, List, length, slice_index}
use Rattle.std.specs.Global.{Vec}
use Rattle.pst_block.specs.Table.{Table}
use Rattle.pst_datatree.specs.Marks.{start_of}
use Rattle.pst_datatree.specs.Parts.{part_count}
use Rattle.pst_ndb.specs.declared.span_index.SpanIndex.{SpanIndex}
use Rattle.pst_ndb.specs.declared.span_index.TheConstants.{FEW}

-- there is one start for each part of the data, which says how many spans come before that part
pub record AreStarts (starts : List ℕ) (t : Table) (bid : ℕ) : Type 0 where
  pub count : length starts ≡ part_count t bid
  pub few : length starts < 2 ^ 16
  pub start : (k : ℕ) → k < part_count t bid → slice_index starts k ≡ start_of t bid k

-- a place among numbers in order: those before it are no greater than one, and those from it on are greater
pub record IsPlaceOf (starts : List ℕ) (n place : ℕ) : Type 0 where
  pub within : place ≤ length starts
  pub before : (k : ℕ) → k < place → slice_index starts k ≤ n
  pub behind : (k : ℕ) → place ≤ k → k < length starts → n < slice_index starts k

-- where starts are held, they are those of the data
abbrev pub HoldsStarts : Option (Vec ℕ) → Table → ℕ → Type 0
HoldsStarts None t bid = ⊤
HoldsStarts (Some starts) t bid = AreStarts starts.items t bid

-- data has so many parts that an index of its spans holds where they begin
unfoldable pub has_many_parts : Table → ℕ → Bool
has_many_parts t bid = nat_lt FEW (part_count t bid)

-- an index holds that, and finds each span by it
unfoldable pub holds_starts : SpanIndex → Bool
holds_starts index = is_some index.starts

-- It is an index of the spans of this data. One that holds nothing is of all data.
unfoldable pub IsSpanIndexOf : SpanIndex → Table → ℕ → Type 0
IsSpanIndexOf index t bid = HoldsStarts index.starts t bid

-- which has one proof, so a node may keep it
HoldsStarts-prop : (starts : Option (Vec ℕ)) (t : Table) (bid : ℕ) → IsProp (HoldsStarts starts t bid)
HoldsStarts-prop None t bid = Unit-prop
HoldsStarts-prop (Some starts) t bid = hlevel props

pub IsSpanIndexOf-prop : (index : SpanIndex) (t : Table) (bid : ℕ) → IsProp (IsSpanIndexOf index t bid)
unfolding IsSpanIndexOf
IsSpanIndexOf-prop index t bid = HoldsStarts-prop index.starts t bid

pub ruleset span_index_facts = (props, IsSpanIndexOf-prop)
