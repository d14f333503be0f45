-- Laws of the first fault of parts, and of joined lists.
use Rattle.std.proofs.Common.{◌≡◌, ℕ, zero, suc, ◌+◌, ◌<◌, ◌≤◌, Bool, true, false, cond, List, [], ◌∷◌, ◌++◌, length, Option, Some, None, Result, Ok, Err, refl, sym, ◌∙◌, arith, length-append, add-one, zero-add, suc-add, ◌⊎◌, inl, inr}
use Rattle.std.specs.Prelude.{slice_get}
use Rattle.pst_fault.specs.declared.fault.Fault.{Fault}
use Rattle.pst_fault.specs.Fault.{no_memory}
use Rattle.pst_fault.specs.First.{◌then◌, holds_or, first_below, join_below, answer, IsFirst, Tells}

-- ---- one after the other

-- a fault that comes first stays first
pub then_some : (a b : Option Fault) (f : Fault) → a ≡ Some f → (a then b) ≡ Some f
then_some (Some g) b f e = e
then_some None b f e = cc

-- where the first has no fault, the second is it
pub then_none : (a b : Option Fault) → a ≡ None → (a then b) ≡ b
then_none (Some g) b e = cc
then_none None b e = refl

-- none of two: none of either
pub none_then : (a b : Option Fault) → (a then b) ≡ None → (a ≡ None) × (b ≡ None)
none_then (Some g) b e = cc
none_then None b e = (refl, e)

-- none of either: none of two
pub both_none : (a b : Option Fault) → a ≡ None → b ≡ None → (a then b) ≡ None
both_none a b e g = then_none a b e ∙ g

-- of three, it is the same which two are taken together
pub then_assoc : (a b c : Option Fault) → (a then b then c) ≡ ((a then b) then c)
then_assoc (Some f) b c = refl
then_assoc None b c = refl

-- ---- a condition

pub holds_or_none : (b : Bool) (f : Fault) → holds_or b f ≡ None → b ≡ true
holds_or_none true f e = refl
holds_or_none false f e = cc

pub holds_or_true : (b : Bool) (f : Fault) → b ≡ true → holds_or b f ≡ None
holds_or_true true f e = refl
holds_or_true false f e = cc

pub holds_or_some : (b : Bool) (f g : Fault) → holds_or b f ≡ Some g → (b ≡ false) × (f ≡ g)
holds_or_some true f g e = cc
holds_or_some false f g e = (refl, cc)

-- a fault under a condition, or else another: none of both
pub guard_then : (b : Bool) (o : Option Fault) (f : Fault) → cond b o (Some f) ≡ None → (b ≡ true) × (o ≡ None)
guard_then true o f e = (refl, e)
guard_then false o f e = cc

-- ---- parts by their numbers

pub below_or_last : (a b : ℕ) → a < suc b → (a < b) ⊎ (a ≡ b)
below_or_last a b h = grind arith

-- where the parts below n have no fault, part i has none
pub none_below : (part : ℕ → Option Fault) (n i : ℕ) → first_below part n ≡ None → i < n → part i ≡ None
none_below part zero i e h = absurd (omega arith)
none_below part (suc n) i e h =
    let both = none_then (first_below part n) (part n) e in
    elim (below_or_last i n h) [ inl lt ↦ none_below part n i both.0 lt | inr eq ↦ rw eq both.1 ]

-- parts that have no fault, one by one
pub all_none : (part : ℕ → Option Fault) (n : ℕ) → ((i : ℕ) → i < n → part i ≡ None) → first_below part n ≡ None
all_none part zero h = refl
all_none part (suc n) h = then_none (first_below part n) (part n) (all_none part n (λ i lt. h i (omega arith))) ∙ h n (omega arith)

-- one more part
pub first_more : (part : ℕ → Option Fault) (i : ℕ) → first_below part i ≡ None → part i ≡ None → first_below part (i + 1) ≡ None
first_more part i e g = rw add-one (then_none (first_below part i) (part i) e ∙ g)

-- the first fault of n parts is that of part i, where those before it have none
pub first_at : (part : ℕ → Option Fault) (n i : ℕ) (f : Fault) → first_below part i ≡ None → part i ≡ Some f → i < n → first_below part n ≡ Some f
first_at part zero i f e g h = absurd (omega arith)
first_at part (suc n) i f e g h =
    elim (below_or_last i n h) [
      | inl lt ↦ then_some (first_below part n) (part n) f (first_at part n i f e g lt)
      | inr eq ↦ then_none (first_below part n) (part n) (rw (← eq) e) ∙ rw (← eq) g
    ]

last_or_below : (a b : ℕ) → a ≤ suc b → (a ≤ b) ⊎ (a ≡ suc b)
last_or_below a b h = grind arith

-- where n parts have no fault, the first i of them have none
pub first_below_front : (part : ℕ → Option Fault) (n i : ℕ) → first_below part n ≡ None → i ≤ n → first_below part i ≡ None
first_below_front part zero i e h = let z : i ≡ 0 = omega arith in rw z refl
first_below_front part (suc n) i e h =
    elim (last_or_below i n h) [
      | inl lt ↦ first_below_front part n i (none_then (first_below part n) (part n) e).0 lt
      | inr eq ↦ rw eq e
    ]

-- a fault of the first parts is that of all
pub first_front : (part : ℕ → Option Fault) (n i : ℕ) (f : Fault) → first_below part i ≡ Some f → i ≤ n → first_below part n ≡ Some f
first_front part zero i f e h = let z : i ≡ 0 = omega arith in let same : first_below part 0 ≡ Some f = (rw z at e) in same
first_front part (suc n) i f e h =
    elim (last_or_below i n h) [
      | inl lt ↦ then_some (first_below part n) (part n) f (first_front part n i f e lt)
      | inr eq ↦ let same : first_below part (suc n) ≡ Some f = (rw eq at e) in same
    ]

-- parts that say the same
pub first_below_same : (part other : ℕ → Option Fault) → ((i : ℕ) → part i ≡ other i) → (n : ℕ) → first_below part n ≡ first_below other n
first_below_same part other same zero = refl
first_below_same part other same (suc n) = rw (same n, first_below_same part other same n) refl

-- ---- joined lists

pub join_more : {X : Type 0} (part : ℕ → List X) (i : ℕ) → join_below part (i + 1) ≡ join_below part i ++ part i
join_more part i = rw add-one refl

pub length-join_more : {X : Type 0} (part : ℕ → List X) (i : ℕ) → length (join_below part (i + 1)) ≡ length (join_below part i) + length (part i)
length-join_more part i = rw add-one (length-append (join_below part i) (part i))

-- the joined list goes on
pub join_rises : {X : Type 0} (part : ℕ → List X) (n i : ℕ) → i < n → length (join_below part i) + length (part i) ≤ length (join_below part n)
join_rises part zero i h = absurd (omega arith)
join_rises part (suc n) i h =
    elim (below_or_last i n h) [
      | inl lt ↦ omega (arith, join_rises part n i lt, length-append (join_below part n) (part n))
      | inr eq ↦ rw eq (omega (arith, length-append (join_below part n) (part n)))
    ]

slice_get-left : {X : Type 0} (xs ys : List X) (i : ℕ) → i < length xs → slice_get (xs ++ ys) i ≡ slice_get xs i
slice_get-left [] ys i h = absurd (omega arith)
slice_get-left (x ∷ xs) ys zero h = refl
slice_get-left (x ∷ xs) ys (suc i) h = slice_get-left xs ys i (omega arith)

slice_get-right : {X : Type 0} (xs ys : List X) (k : ℕ) → slice_get (xs ++ ys) (length xs + k) ≡ slice_get ys k
slice_get-right [] ys k = rw zero-add refl
slice_get-right (x ∷ xs) ys k = rw suc-add (slice_get-right xs ys k)

-- an element of a joined list
pub slice_get-join : {X : Type 0} (part : ℕ → List X) (n i k : ℕ) → i < n → k < length (part i) → slice_get (join_below part n) (length (join_below part i) + k) ≡ slice_get (part i) k
slice_get-join part zero i k h b = absurd (omega arith)
slice_get-join part (suc n) i k h b =
    elim (below_or_last i n h) [
      | inl lt ↦
          slice_get-left (join_below part n) (part n) (length (join_below part i) + k) (omega (arith, join_rises part n i lt))
          ∙ slice_get-join part n i k lt b
      | inr eq ↦ rw eq (slice_get-right (join_below part n) (part n) k)
    ]

-- ---- answers

-- the value is answered exactly where there is no fault
pub answer_ok : {X : Type 0} (first : Option Fault) (x y : X) → answer first x ≡ Ok y → (first ≡ None) × (x ≡ y)
answer_ok None x y e = (refl, cc)
answer_ok (Some f) x y e = cc

pub answer_none : {X : Type 0} (first : Option Fault) (x : X) → first ≡ None → answer first x ≡ Ok x
answer_none None x e = refl
answer_none (Some f) x e = cc

pub answer_err : {X : Type 0} (first : Option Fault) (x : X) (f : Fault) → Err f ≡ answer first x → first ≡ Some f
answer_err None x f e = cc
answer_err (Some g) x f e = cc

-- a check of a part answered with a fault: so does the check of all parts, where those before it have none
pub answer-first_at : {X Y : Type 0} (part : ℕ → Option Fault) (n i : ℕ) (f : Fault) (x : X) (y : Y) → Err f ≡ answer (part i) x → first_below part i ≡ None → i < n → Err f ≡ answer (first_below part n) y
answer-first_at part n i f x y e sound h = rw (first_at part n i f sound (answer_err (part i) x f e) h) refl

-- ---- what a check tells that may run out of memory

-- a refusal of the first part is one of both
pub is_first_then : (a b : Option Fault) (f : Fault) → IsFirst a f → IsFirst (a then b) f
is_first_then a b f (inl out) = inl out
is_first_then a b f (inr e) = inr (then_some a b f e)

-- a refusal of the second part is one of both, where the first has no fault
pub is_first_after : (a b : Option Fault) (f : Fault) → a ≡ None → IsFirst b f → IsFirst (a then b) f
is_first_after a b f none (inl out) = inl out
is_first_after a b f none (inr e) = inr (then_none a b none ∙ e)

-- a refusal of part i is one of all parts, where those before it have no fault
pub is_first_at : (part : ℕ → Option Fault) (n i : ℕ) (f : Fault) → IsFirst (part i) f → first_below part i ≡ None → i < n → IsFirst (first_below part n) f
is_first_at part n i f (inl out) sound h = inl out
is_first_at part n i f (inr e) sound h = inr (first_at part n i f sound e h)

-- where there is no fault, only memory refuses
pub only_memory : (first : Option Fault) (f : Fault) → first ≡ None → IsFirst first f → f ≡ no_memory
only_memory first f none (inl out) = out
only_memory first f none (inr e) = let impossible : None ≡ Some f = sym none ∙ e in cc
