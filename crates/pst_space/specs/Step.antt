-- A walk that claims space passes on what is claimed: each step answers its value, or what is claimed by then and the
-- first fault.
use Rattle.std.specs.Prelude.{◌≡◌, ◌⊎◌, ℕ, List, [], ◌∷◌, Option, Some, None, Result, Ok, Err}
use Rattle.pst_bytes.specs.declared.span.Span.{Span}
use Rattle.pst_fault.specs.declared.fault.Fault.{Fault}
use Rattle.pst_fault.specs.declared.kind.Kind.TheVariants.{Overlap}
use Rattle.pst_fault.specs.Fault.{fault_in, no_memory}
use Rattle.pst_space.specs.Claimed.{Claimed, claim_of}

abbrev pub Step : Type 0 → Type 0
Step X = Result X (Claimed × Fault)

-- one step after another
infixl 10 ◌>>=◌
abbrev pub ◌>>=◌ : {A B : Type 0} → Step A → (A → Step B) → Step B
(Ok x) >>= f = f x
(Err e) >>= f = Err e

-- goes on where there is no fault
abbrev pub unless : {A : Type 0} → Option Fault → Claimed → Step A → Step A
unless None claimed step = step
unless (Some f) claimed step = Err (claimed, f)

-- claims a span for the page or block with this identifier
abbrev pub claimed_or : Span → ℕ → Claimed → Option Claimed → Step Claimed
claimed_or span bid claimed None = Err (claimed, fault_in Overlap span.at bid)
claimed_or span bid claimed (Some more) = Ok more

abbrev pub claim_step : Span → ℕ → Claimed → Step Claimed
claim_step span bid claimed = claimed_or span bid claimed (claim_of claimed span)

-- What a function returned, seen by view, and what it left claimed is what a step gives, unless memory ran out.
abbrev pub GivesStepBy : {X Y : Type 0} → (X → Y) → Result X Fault → Claimed → Step Y → Type 0
GivesStepBy view (Ok x) claimed step = step ≡ Ok (view x)
GivesStepBy view (Err f) claimed step = (f ≡ no_memory) ⊎ (step ≡ Err (claimed, f))

abbrev pub GivesStep : {X Y : Type 0} → Result X Fault → Y → Claimed → Step Y → Type 0
GivesStep result value claimed step = GivesStepBy (λ _. value) result claimed step

-- What a function that takes no memory returned, and what it left claimed, is what a step gives.
abbrev pub EndsStep : {X : Type 0} → Result X Fault → Claimed → Step Claimed → Type 0
EndsStep (Ok x) claimed step = step ≡ Ok claimed
EndsStep (Err f) claimed step = step ≡ Err (claimed, f)

-- new is what is claimed once some of the spans, from the first on, are claimed after old
abbrev pub ClaimsSome : Claimed → Claimed → List Span → Type 0
ClaimsSome old new [] = new ≡ old
ClaimsSome old new (span ∷ rest) = (new ≡ old) ⊎ ((next : Claimed) × (claim_of old span ≡ Some next) × ClaimsSome next new rest)
