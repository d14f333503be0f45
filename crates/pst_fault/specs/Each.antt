-- The first fault of the parts of a list, and of a part that may be missing.
use Rattle.std.specs.Prelude.{Option, Some, None, List, [], ◌∷◌}
use Rattle.pst_fault.specs.declared.fault.Fault.{Fault}
use Rattle.pst_fault.specs.First.{◌then◌}

-- of parts, in order
unfoldable pub first_of : {X : Type 0} → (X → Option Fault) → List X → Option Fault
first_of part [] = None
first_of part (x ∷ rest) = part x then first_of part rest

-- of a part that may be missing: of none, there is none
abbrev pub if_there : {X : Type 0} → (X → Option Fault) → Option X → Option Fault
if_there part None = None
if_there part (Some x) = part x

-- of a part that must be there
abbrev pub there_or : {X : Type 0} → Fault → (X → Option Fault) → Option X → Option Fault
there_or missing part None = Some missing
there_or missing part (Some x) = part x
