-- The slices of a value, one after another.
use Rattle.std.specs.Prelude.{◌≡◌, ℕ, Option, Some, None, IfSome, List, [], ◌∷◌, ◌++◌}
use Rattle.std.specs.Borrow.{Bor}
use Rattle.std.specs.Iterator.{YieldsFirstRef}
use Rattle.pst_datatree.specs.declared.value_view.Value.{Value}
use Rattle.pst_datatree.specs.declared.value_view.Value.TheVariants.{Whole, Pieces as InPieces}
use Rattle.pst_datatree.specs.declared.pieces.Pieces.{Pieces}
use Rattle.pst_datatree.specs.declared.slices.Slices.{Slices}
use Rattle.pst_datatree.specs.Left.{slices_left, LendsFirst}

-- the bytes of each slice of a value: of the one that is whole, or of each span
abbrev pub value_slices : Value → List (List ℕ)
value_slices (Whole at slice) = slice.now ∷ []
value_slices (InPieces p) = slices_left p

abbrev pub slice_in_front : Option (Bor (List ℕ)) → List (List ℕ)
slice_in_front None = []
slice_in_front (Some slice) = slice.now ∷ []

abbrev pub slices_behind : Option Pieces → List (List ℕ)
slices_behind None = []
slices_behind (Some p) = slices_left p

-- those that are left
abbrev pub slices_in : Slices → List (List ℕ)
slices_in s = slice_in_front s.front ++ slices_behind s.behind

-- they are a value's own: its one slice, or its pieces
abbrev pub AreOf : Value → Slices → Type 0
AreOf (Whole at slice) s = (s.front ≡ Some slice) × (s.behind ≡ None)
AreOf (InPieces p) s = (s.front ≡ None) × (s.behind ≡ Some p)

-- the same memory, and not equal bytes elsewhere
abbrev pub IsSameSlice : Bor (List ℕ) → Bor (List ℕ) → Type 0
IsSameSlice a b = (b.now ≡ a.now) × (b.ref_ptr.0 ≡ a.ref_ptr.0) × (b.ref_ptr.1 ≡ a.ref_ptr.1)

-- the first of some pieces, taken
abbrev pub LendsPiece : Option Pieces → Option (Bor (List ℕ)) → Option Pieces → Type 0
LendsPiece None slice after = slice ≡ None
LendsPiece (Some p) slice None = slice ≡ None
LendsPiece (Some p) slice (Some q) = LendsFirst p slice q

abbrev pub LendsNext : Option (Bor (List ℕ)) → Option Pieces → Option (Bor (List ℕ)) → Slices → Type 0
LendsNext None behind slice new = LendsPiece behind slice new.behind
LendsNext (Some front) behind slice new = IfSome slice (IsSameSlice front) × (new.behind ≡ behind)

-- The first slice that is left, taken: it is the value's own memory.
abbrev pub TakesNext : Slices → Option (Bor (List ℕ)) → Slices → Type 0
TakesNext old slice new = YieldsFirstRef slices_in old slice new × LendsNext old.front old.behind slice new
