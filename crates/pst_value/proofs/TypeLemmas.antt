-- What holds of each row of the table of types.
use Rattle.std.proofs.Common.{◌≡◌, ℕ, ◌≤◌, ◌<◌, Bool, true, false, Option, Some, None, refl, arith, List, [], ◌∷◌, cond}
use Rattle.std.specs.Prelude.{nat_le, ◌&&◌}
use Rattle.std.proofs.lemmas.Bool.{le-leb, leb-true}
use Rattle.pst_value.specs.declared.class.Class.{Class}
use Rattle.pst_value.specs.declared.class.Class.TheVariants.{Inline, Eight, Guid, Object, Open, Multi, Opaque}
use Rattle.pst_value.specs.declared.type_row.Several.{Several}
use Rattle.pst_value.specs.declared.type_row.Several.TheVariants.{No, Wide, Listed}
use Rattle.pst_value.specs.declared.type_row.TypeRow.{TypeRow}
use Rattle.pst_value.specs.Class.{is_one_of, unlisted, type_rows, row_in, type_row, class_of, cell_width_of}
use Rattle.pst_value.specs.Values.{fitting, held_as, held_of}

-- ---- a test of each row is one of each number

abbrev pass : (TypeRow → Bool) → List (List ℕ × TypeRow) → Bool
pass test [] = test unlisted
pass test (row ∷ rows) = test row.1 && pass test rows

one_of : (test : TypeRow → Bool) (is : Bool) (x y : TypeRow) (others : Bool) → (test x && others) ≡ true → (others ≡ true → test y ≡ true) → test (cond is x y) ≡ true
one_of test true x y others both more = first (test x) both
  where
    first : (b : Bool) → (b && others) ≡ true → b ≡ true
    first true e = refl
    first false e = e
one_of test false x y others both more = more (second (test x) both)
  where
    second : (b : Bool) → (b && others) ≡ true → others ≡ true
    second true e = e
    second false e = absurd cc

each_passes : (test : TypeRow → Bool) (rows : List (List ℕ × TypeRow)) (t : ℕ) → pass test rows ≡ true → test (row_in rows t) ≡ true
each_passes test [] t all = all
each_passes test (row ∷ rows) t all = one_of test (is_one_of row.0 t) row.1 (row_in rows t) (pass test rows) all (λ rest. each_passes test rows t rest)

-- ---- the width of an element

abbrev is_narrow : Several → Bool
is_narrow No = true
is_narrow (Wide width) = nat_le 1 width && nat_le width 16
is_narrow Listed = true

narrow : (t : ℕ) → is_narrow (type_row t).several ≡ true
unfolding type_row
narrow t = each_passes (λ row. is_narrow row.several) type_rows t refl

-- each of several values that have a width has a byte, and no more than 16
pub width_bounds : (t width : ℕ) → (type_row t).several ≡ Wide width → (0 < width) × (width ≤ 16)
width_bounds t width is = bounds (rw is at (narrow t))
  where
    bounds : (nat_le 1 width && nat_le width 16) ≡ true → (0 < width) × (width ≤ 16)
    bounds all = grind arith

-- ---- the width of a cell

abbrev holds_hnid : Option ℕ → Bool
holds_hnid None = false
holds_hnid (Some width) = nat_le 4 width

abbrev has_room : Class → Option ℕ → Bool
has_room Inline cell = true
has_room Eight cell = true
has_room Guid cell = holds_hnid cell
has_room Object cell = holds_hnid cell
has_room Open cell = holds_hnid cell
has_room Multi cell = holds_hnid cell
has_room Opaque cell = true

roomy : (t : ℕ) → has_room (class_of t) (cell_width_of t) ≡ true
unfolding type_row
roomy t = each_passes (λ row. has_room row.class row.cell) type_rows t refl

by_hnid : (cell : Option ℕ) (len : ℕ) → holds_hnid cell ≡ true → cell ≡ Some len → 4 ≤ len
by_hnid cell len room is = leb-true 4 len (rw is at room)

by_fit : (cell : Option ℕ) (len : ℕ) → cell ≡ Some len → fitting cell len ≡ None → 4 ≤ len
by_fit cell len is none = whole (nat_le len len) (le-leb len len (omega arith)) (rw is at none)
  where
    whole : (fits : Bool) → fits ≡ true → cond fits (Some len) None ≡ None → 4 ≤ len
    whole true e none = absurd cc
    whole false e none = absurd cc

by_class : (c : Class) (cell : Option ℕ) (len : ℕ) → has_room c cell ≡ true → cell ≡ Some len → held_as c cell len ≡ None → 4 ≤ len
by_class Inline cell len room is none = by_fit cell len is none
by_class Eight cell len room is none = by_fit cell len is none
by_class Guid cell len room is none = by_hnid cell len room is
by_class Object cell len room is none = by_hnid cell len room is
by_class Open cell len room is none = by_hnid cell len room is
by_class Multi cell len room is none = by_hnid cell len room is
by_class Opaque cell len room is none = absurd cc

-- in a cell of its type's width, what is not kept there itself has room for an HNID
pub typed_room : (t len : ℕ) → cell_width_of t ≡ Some len → held_of t len ≡ None → 4 ≤ len
unfolding held_of
typed_room t len is none = by_class (class_of t) (cell_width_of t) len (roomy t) is none
