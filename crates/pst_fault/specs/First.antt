-- The first fault of a part of the file: of the conditions and the parts that it is made of, in their order.
-- These words are shared by every layer that checks something.
use Rattle.std.specs.Prelude.{◌≡◌, ℕ, zero, suc, ◌+◌, ◌<◌, Bool, true, false, Option, Some, None, Result, Ok, Err, List, [], ◌++◌, ◌⊎◌}
use Rattle.pst_fault.specs.declared.fault.Fault.{Fault}
use Rattle.pst_fault.specs.Fault.{no_memory}

-- the first of two faults
infixr 20 ◌then◌
abbrev pub ◌then◌ : Option Fault → Option Fault → Option Fault
(Some f) then g = Some f
None then g = g

-- a condition, and its fault where it fails
abbrev pub holds_or : Bool → Fault → Option Fault
holds_or true f = None
holds_or false f = Some f

-- the first fault of the parts with the numbers below n
abbrev pub first_below : (ℕ → Option Fault) → ℕ → Option Fault
first_below part zero = None
first_below part (suc n) = first_below part n then part n

-- the lists with the numbers below n, joined
abbrev pub join_below : {X : Type 0} → (ℕ → List X) → ℕ → List X
join_below part zero = []
join_below part (suc n) = join_below part n ++ part n

-- the lists with the numbers i, i + 1, .. so many, joined
unfoldable pub join_from : {X : Type 0} → (ℕ → List X) → ℕ → ℕ → List X
join_from part i zero = []
join_from part i (suc n) = part i ++ join_from part (i + 1) n

-- the lists with the numbers below n, each as told, joined
abbrev pub AreJoined : {X : Type 0} → (ℕ → List X → Type 0) → ℕ → List X → Type 0
AreJoined {X} IsPart n list = (parts : ℕ → List X) × ((i : ℕ) → i < n → IsPart i (parts i)) × (list ≡ join_below parts n)

-- what a check answers: the value where there is no fault, else the fault
abbrev pub answer : {X : Type 0} → Option Fault → X → Result X Fault
answer None x = Ok x
answer (Some f) x = Err f

-- the fault is the first one, unless memory ran out
abbrev pub IsFirst : Option Fault → Fault → Type 0
IsFirst first f = (f ≡ no_memory) ⊎ (first ≡ Some f)

-- What a check tells that may run out of memory: the value exactly where there is no fault, else the first one.
abbrev pub Tells : {X : Type 0} → Result X Fault → Option Fault → X → Type 0
Tells (Ok x) first value = (first ≡ None) × (x ≡ value)
Tells (Err f) first value = IsFirst first f

-- What a check answers whose value is a view: a view exactly where there is no fault, else the first one. Which view it is
-- stands in clauses of their own.
abbrev pub Checks : {X : Type 0} → Result X Fault → Option Fault → Type 0
Checks (Ok x) first = first ≡ None
Checks (Err f) first = first ≡ Some f

-- The same, where memory may run out: a view exactly where there is no fault, else the first one.
abbrev pub TellsFirst : {X : Type 0} → Result X Fault → Option Fault → Type 0
TellsFirst (Ok x) first = first ≡ None
TellsFirst (Err f) first = IsFirst first f
