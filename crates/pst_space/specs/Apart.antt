-- Spans that have no byte in common, and what that says of the flags.
use Rattle.std.specs.Prelude.{◌≡◌, ℕ, ◌+◌, ◌<◌, ◌≤◌, ◌↔◌, ⊤, Bool, false, ◌&&◌, ◌||◌, nat_le, nat_lt, List, [], ◌∷◌, replicate, Some}
use Rattle.pst_bytes.specs.declared.span.Span.{Span}
use Rattle.pst_bytes.specs.Span.{IsApartFromAll}
use Rattle.pst_space.specs.Claimed.{Claimed, IsUnits, claim_all, with_spans, flag_of, first_unit, unit_count}

-- no two places of the list have a byte in common
abbrev pub AreApart : List Span → Type 0
AreApart [] = ⊤
AreApart (s ∷ ss) = IsApartFromAll s ss × AreApart ss

-- each span is one or more whole units of the mapped part
abbrev pub AreUnits : Claimed → List Span → Type 0
AreUnits claimed [] = ⊤
AreUnits claimed (s ∷ ss) = IsUnits claimed s × AreUnits claimed ss

-- no byte of the span is claimed
abbrev pub IsFree : Claimed → Span → Type 0
IsFree claimed s = (unit : ℕ) → first_unit s ≤ unit → unit < first_unit s + unit_count s → flag_of claimed unit ≡ false

-- nor of each of these
abbrev pub AreFree : Claimed → List Span → Type 0
AreFree claimed [] = ⊤
AreFree claimed (s ∷ ss) = IsFree claimed s × AreFree claimed ss

-- the unit lies in the span
abbrev pub covers : Span → ℕ → Bool
covers s unit = nat_le (first_unit s) unit && nat_lt unit (first_unit s + unit_count s)

-- the unit lies in one of the spans
abbrev pub is_covered : List Span → ℕ → Bool
is_covered [] unit = false
is_covered (s ∷ ss) unit = covers s unit || is_covered ss unit

-- Spans of the mapped part can be claimed one after another exactly where none of them has a byte in common with what is
-- claimed, and no two of them have one; and then their flags are set, and no others.
abbrev pub ClaimsLaw : Type 0
ClaimsLaw = (claimed new : Claimed) (spans : List Span) → AreUnits claimed spans → (claim_all claimed spans ≡ Some new) ↔ (AreFree claimed spans × AreApart spans × (new ≡ with_spans claimed spans))

-- Where nothing is claimed, spans can be claimed one after another exactly where no two of them have a byte in common.
abbrev pub ApartLaw : Type 0
ApartLaw = (units : ℕ) (spans : List Span) → AreUnits (replicate units false) spans → ((new : Claimed) × (claim_all (replicate units false) spans ≡ Some new)) ↔ AreApart spans

-- The flags are then those of the units in which one of them lies.
abbrev pub FlagsLaw : Type 0
FlagsLaw = (units : ℕ) (spans : List Span) (new : Claimed) → claim_all (replicate units false) spans ≡ Some new → (unit : ℕ) → unit < units → flag_of new unit ≡ is_covered spans unit
