-- The parts of a list, one after another.
use Rattle.std.proofs.Common.{◌≡◌, ℕ, zero, suc, ◌<◌, List, [], ◌∷◌, ◌++◌, length, Option, Some, None, refl, sym, ap, ◌∙◌, arith}
use Rattle.std.specs.Prelude.{slice_index_or}
use Rattle.std.specs.List.{Contains}
use Rattle.pst_fault.specs.declared.fault.Fault.{Fault}
use Rattle.pst_fault.specs.First.{◌then◌, first_below, join_below, IsFirst}
use Rattle.pst_fault.specs.Each.{first_of, there_or}
use Rattle.pst_fault.proofs.FirstLemmas.{then_none, then_some, then_assoc, none_then, is_first_then}

-- one more part without a fault
pub each_next : {X : Type 0} (part : X → Option Fault) (xs rest : List X) (x : X) (total : Option Fault) → xs ≡ x ∷ rest → part x ≡ None → first_of part xs ≡ total → first_of part rest ≡ total
unfolding first_of
each_next part xs rest x total is passed so_far = sym (then_none (part x) (first_of part rest) passed) ∙ (rw is at so_far)

-- a part with a fault
pub each_fails : {X : Type 0} (part : X → Option Fault) (xs rest : List X) (x : X) (total : Option Fault) (f : Fault) → xs ≡ x ∷ rest → part x ≡ Some f → first_of part xs ≡ total → total ≡ Some f
unfolding first_of
each_fails part xs rest x total f is failed so_far = sym (rw is at so_far) ∙ then_some (part x) (first_of part rest) f failed

-- a part with a fault, or memory ran out in it
pub each_refused : {X : Type 0} (part : X → Option Fault) (xs rest : List X) (x : X) (total : Option Fault) (f : Fault) → xs ≡ x ∷ rest → IsFirst (part x) f → first_of part xs ≡ total → IsFirst total f
unfolding first_of
each_refused part xs rest x total f is failed so_far = rw (← (rw is at so_far)) (is_first_then (part x) (first_of part rest) f failed)

-- no part is left
pub each_done : {X : Type 0} (part : X → Option Fault) (xs : List X) (total : Option Fault) → xs ≡ [] → first_of part xs ≡ total → total ≡ None
unfolding first_of
each_done part xs total is so_far = sym (rw is at so_far)

-- ---- parts without a fault

pub each_first : {X : Type 0} (part : X → Option Fault) (xs rest : List X) (x : X) → first_of part xs ≡ None → xs ≡ x ∷ rest → part x ≡ None
unfolding first_of
each_first part xs rest x none is = (none_then (part x) (first_of part rest) (rw is at none)).0

pub each_rest : {X : Type 0} (part : X → Option Fault) (xs rest : List X) (x : X) → first_of part xs ≡ None → xs ≡ x ∷ rest → first_of part rest ≡ None
unfolding first_of
each_rest part xs rest x none is = (none_then (part x) (first_of part rest) (rw is at none)).1

pub contains_here : {X : Type 0} (x : X) (rest : List X) → Contains (x ∷ rest) x
contains_here x rest = (0, omega arith, refl)

pub contains_later : {X : Type 0} (x y : X) (rest : List X) → Contains rest y → Contains (x ∷ rest) y
contains_later x y rest w = (suc w.0, omega (arith, w.1), w.2)

-- each part has none: there is none
pub of_none : {X : Type 0} (part : X → Option Fault) (xs : List X) → ((x : X) → Contains xs x → part x ≡ None) → first_of part xs ≡ None
unfolding first_of
of_none part [] h = refl
of_none part (x ∷ rest) h = then_none (part x) (first_of part rest) (h x (contains_here x rest)) ∙ of_none part rest (λ y w. h y (contains_later x y rest w))

-- there is none: each part has none
pub none_of : {X : Type 0} (part : X → Option Fault) (xs : List X) (x : X) → first_of part xs ≡ None → Contains xs x → part x ≡ None
unfolding first_of
none_of part [] x none w = absurd (omega (arith, w.1))
none_of part (y ∷ rest) x none w = let both = none_then (part y) (first_of part rest) none in by_place w.0 w.1 w.2 both.0 (λ v. none_of part rest x both.1 v)
  where
    by_place : (k : ℕ) → k < length (y ∷ rest) → slice_index_or (y ∷ rest) k x ≡ x → part y ≡ None → (Contains rest x → part x ≡ None) → part x ≡ None
    by_place zero lt is one later = rw (← is) one
    by_place (suc k) lt is one later = later (k, omega arith, is)

-- ---- parts that say the same

pub first_of_same : {X : Type 0} (part other : X → Option Fault) → ((x : X) → part x ≡ other x) → (xs : List X) → first_of part xs ≡ first_of other xs
unfolding first_of
first_of_same part other same [] = refl
first_of_same part other same (x ∷ rest) = rw (same x, first_of_same part other same rest) refl

-- ---- lists that are joined

pub first_append : {X : Type 0} (part : X → Option Fault) (xs ys : List X) → first_of part (xs ++ ys) ≡ (first_of part xs then first_of part ys)
unfolding first_of
first_append part [] ys = refl
first_append part (x ∷ xs) ys = ap (λ o. part x then o) (first_append part xs ys) ∙ then_assoc (part x) (first_of part xs) (first_of part ys)

pub first_join : {X : Type 0} (part : X → Option Fault) (list : ℕ → List X) (n : ℕ) → first_of part (join_below list n) ≡ first_below (λ i. first_of part (list i)) n
unfolding first_of
first_join part list zero = refl
first_join part list (suc n) = first_append part (join_below list n) (list n) ∙ ap (λ o. o then first_of part (list n)) (first_join part list n)

-- a part that has to be there is, with nothing at fault in it
pub there_is : {X : Type 0} (missing : Fault) (part : X → Option Fault) (o : Option X) → there_or missing part o ≡ None → (x : X) × (o ≡ Some x) × (part x ≡ None)
there_is missing part None e = cc
there_is missing part (Some x) e = (x, refl, e)
