-- Laws of subnodes.
use Rattle.std.specs.Prelude.{◌≡◌, ℕ, suc, ◌-◌, ◌<◌, ◌≤◌, ◌↔◌, nat_le, if◌then◌else◌, List, [], Option, None, Some}
use Rattle.std.specs.List.{Contains}
use Rattle.pst_fault.specs.declared.fault.Fault.{Fault}
use Rattle.pst_block.specs.Block.{bid_key}
use Rattle.pst_block.specs.Table.{Table}
use Rattle.pst_btree.specs.Entries.{first_with}
use Rattle.pst_datatree.specs.Data.{data_fault}
use Rattle.pst_subnode.specs.declared.sub.Sub.{Sub}
use Rattle.pst_subnode.specs.List.{sub_nid, subs_of}
use Rattle.pst_subnode.specs.Tree.{nesting, sub_fault, sub_height}
use Rattle.pst_subnode.specs.Relation.{HasSubs}

-- A block identifier has a list of a height within the limit exactly where it has no first fault, and then these are they.
abbrev pub SubLaw : Type 0
SubLaw =
    (t : Table) (limit bid height : ℕ) (subs : List Sub) →
    (HasSubs t bid height subs × (height ≤ limit)) ↔ ((sub_fault t limit bid ≡ None) × (height ≡ sub_height t limit bid) × (subs ≡ subs_of t bid))

-- A block identifier has at most one list, of one height.
abbrev pub OneLaw : Type 0
OneLaw =
    (t : Table) (bid height other : ℕ) (subs others : List Sub) →
    HasSubs t bid height subs → HasSubs t bid other others → (height ≡ other) × (subs ≡ others)

-- What may nest so deep may nest deeper.
abbrev pub MoreLaw : Type 0
MoreLaw = (t : Table) (limit bid : ℕ) → sub_fault t limit bid ≡ None → sub_fault t (suc limit) bid ≡ None

-- Below a list without fault each entry has none, neither its data nor its own subnodes.
abbrev pub EntryLaw : Type 0
EntryLaw =
    (t : Table) (limit bid : ℕ) (s : Sub) → sub_fault t (suc limit) bid ≡ None → Contains (subs_of t bid) s →
    (data_fault t s.bid_data ≡ None) × (sub_fault t limit s.bid_sub ≡ None)

-- What is found in a list without fault has none under the same limit.
abbrev pub FoundLaw : Type 0
FoundLaw =
    (t : Table) (limit bid nid : ℕ) (s : Sub) → sub_fault t limit bid ≡ None → first_with sub_nid nid (subs_of t bid) ≡ Some s →
    (data_fault t s.bid_data ≡ None) × (sub_fault t limit s.bid_sub ≡ None)

-- In a list without fault an entry is found under a nid exactly where it is there and has that nid.
abbrev pub MapLaw : Type 0
MapLaw =
    (t : Table) (limit bid nid : ℕ) (s : Sub) → sub_fault t limit bid ≡ None →
    (first_with sub_nid nid (subs_of t bid) ≡ Some s) ↔ (Contains (subs_of t bid) s × (s.nid ≡ nid))

-- What is found in a list without fault may nest one fewer.
abbrev pub BelowLaw : Type 0
BelowLaw =
    (t : Table) (limit bid nid : ℕ) (s : Sub) → sub_fault t limit bid ≡ None → first_with sub_nid nid (subs_of t bid) ≡ Some s →
    (0 < limit) × (sub_fault t (limit - 1) s.bid_sub ≡ None)

-- An entry's own list is less high than the list that it stands in.
abbrev pub LowerLaw : Type 0
LowerLaw =
    (t : Table) (limit bid : ℕ) (s : Sub) → sub_fault t limit bid ≡ None → Contains (subs_of t bid) s →
    sub_height t limit s.bid_sub < sub_height t limit bid

-- A list without fault is no higher than the limit, and has none under any limit that is not below its height, which is the
-- same there.
abbrev pub HeightLaw : Type 0
HeightLaw =
    (t : Table) (limit bid : ℕ) → sub_fault t limit bid ≡ None →
    (sub_height t limit bid ≤ limit)
    × ((other : ℕ) → sub_height t limit bid ≤ other → (sub_fault t other bid ≡ None) × (sub_height t other bid ≡ sub_height t limit bid))

-- whether lists of a height may nest where so many may
abbrev pub limit_fault : ℕ → ℕ → Option Fault
limit_fault height limit = if nat_le height limit then None else Some nesting

-- A list without fault under one limit tells under another what its height says: none, or nesting where it is too high. So
-- what is known of it by its height is what a walk afresh would answer.
abbrev pub DepthLaw : Type 0
DepthLaw = (t : Table) (limit other bid : ℕ) → sub_fault t limit bid ≡ None → sub_fault t other bid ≡ limit_fault (sub_height t limit bid) other

-- The limit says nothing of the height, where there is no fault under either.
abbrev pub HeightLimitLaw : Type 0
HeightLimitLaw = (t : Table) (limit other bid : ℕ) → sub_fault t limit bid ≡ None → sub_fault t other bid ≡ None → sub_height t limit bid ≡ sub_height t other bid

-- A list without fault and of no height has no entries.
abbrev pub NoHeightLaw : Type 0
NoHeightLaw = (t : Table) (limit bid : ℕ) → sub_fault t limit bid ≡ None → sub_height t limit bid ≡ 0 → subs_of t bid ≡ []

-- Bit 0 of a block identifier says nothing of its list (but in the fault of a block that is missing).
abbrev pub SameSubLaw : Type 0
SameSubLaw =
    (t : Table) (a b : ℕ) → bid_key a ≡ bid_key b →
    (subs_of t a ≡ subs_of t b)
    × ((limit : ℕ) → (sub_fault t limit a ≡ None) ↔ (sub_fault t limit b ≡ None))
    × ((limit : ℕ) → sub_height t limit a ≡ sub_height t limit b)
