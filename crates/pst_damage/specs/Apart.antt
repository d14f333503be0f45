-- The pages of a damaged node B-tree with a fault that lie within none before them, side by side.
use Rattle.std.specs.Prelude.{◌≡◌, ℕ, Bool, true, false, ◌&&◌, nat_le, leb, List, [], ◌∷◌, Option, Some, None}
use Rattle.std.specs.List.Sorted.{IsPartitionPoint}
use Rattle.pst_remains.specs.declared.pages.Broken.{Broken}
use Rattle.pst_remains.specs.Pages.{page_before}

-- keys end at a bound, or below it
abbrev pub is_up_to : Option ℕ → ℕ → Bool
is_up_to None bound = false
is_up_to (Some high) bound = nat_le high bound

-- the keys of one page end where those of another begin, or before
abbrev pub precedes : Broken → Broken → Bool
precedes a b = nat_le a.from b.from && is_up_to a.high b.from

-- the keys of one page are among those of another
abbrev pub ends_within : Option ℕ → Option ℕ → Bool
ends_within None inner = true
ends_within (Some high) inner = is_up_to inner high

abbrev pub lies_within : Broken → Broken → Bool
lies_within outer b = nat_le outer.from b.from && ends_within outer.high b.high

-- each precedes the next
abbrev pub precedes_first : Broken → List Broken → Bool
precedes_first b [] = true
precedes_first b (c ∷ rest) = precedes b c

abbrev pub are_apart : List Broken → Bool
are_apart [] = true
are_apart (b ∷ rest) = precedes_first b rest && are_apart rest

-- Behind pages the same keys lie first.
abbrev pub StandFor : List Broken → List Broken → Type 0
StandFor outer all = (key : ℕ) → page_before outer key ≡ page_before all key

-- so many of the first begin at or before a key, and no other one does
abbrev pub BeginUpTo : List Broken → ℕ → ℕ → Type 0
BeginUpTo xs key count = IsPartitionPoint (λ (b : Broken). leb b.from key ≡ true) (λ (b : Broken). leb b.from key ≡ false) xs count
