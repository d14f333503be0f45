-- What is known of the identifiers in SLBLOCKs: that they rise, and where they lie; else their numbers.
use Rattle.std.specs.Prelude.{◌≡◌, ℕ, ◌+◌, Bool, true, ◌&&◌, nat_le, nat_lt, Option, Some, List, [], ◌∷◌, map}
use Rattle.std.specs.Ordering.{nat_cmp}
use Rattle.std.specs.BTreeMap.{get}
use Rattle.pst_block.specs.Block.{bid_key}
use Rattle.pst_block.specs.Table.{Table, entry_of}
use Rattle.pst_subnode.specs.declared.sub.Sub.{Sub}
use Rattle.pst_subnode.specs.declared.ranges.NidRange.{NidRange}
use Rattle.pst_subnode.specs.declared.ranges.Ranges.{Ranges}
use Rattle.pst_subnode.specs.List.{sub_nid, subs_at, slblock_subs}
use Rattle.pst_subnode.specs.Numbers.{AreNumbersTrue}

-- Numbers rise: each is above the one before, the first is not below one number, and all are below another.
unfoldable pub rise_within : ℕ → ℕ → List ℕ → Bool
rise_within low end [] = true
rise_within low end (n ∷ rest) = (nat_le low n && nat_lt n end) && rise_within (n + 1) end rest

-- the identifiers of entries rise within a range
abbrev pub RiseIn : NidRange → List Sub → Type 0
RiseIn range subs = rise_within range.first range.end (map sub_nid subs) ≡ true

-- those in the SLBLOCK that a block identifier names
abbrev pub IsRangeOf : Table → ℕ → NidRange → Type 0
IsRangeOf t bid range = RiseIn range (subs_at (slblock_subs t) (entry_of t bid))

-- what is known of the SLBLOCK of a block identifier, whose bit 0 says nothing
unfoldable pub range_of : Ranges → ℕ → Option NidRange
range_of r bid = get nat_cmp r.ranges (bid_key bid)

-- each range is true, and each number
unfoldable pub AreRangesTrue : Table → Ranges → Type 0
AreRangesTrue t r = ((bid : ℕ) (range : NidRange) → range_of r bid ≡ Some range → IsRangeOf t bid range) × AreNumbersTrue t r.numbers
