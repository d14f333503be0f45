-- What every layer needs of options, flags, numbers and lists.
use Rattle.std.proofs.Common.{◌≡◌, ℕ, Bool, true, false, not, ◌&&◌, ◌||◌, List, [], ◌∷◌, map, Option, Some, None, refl, sym, arith}
use Rattle.std.specs.Prelude.{nat_eq}
use Rattle.std.proofs.lemmas.Bool.Decides.{nat_tests}

pub some_is : {X : Type 0} (x y : X) → (let o : Option X = Some x in o ≡ Some y) → x ≡ y
some_is x y e = cc

pub none_is : {X : Type 0} (y : X) → (let o : Option X = None in o ≡ Some y) → ⊥
none_is y e = cc

pub true_false : (b : Bool) → b ≡ true → b ≡ false → ⊥
true_false b e f = cc

-- two tests, each true where the other is
pub same_test : (a b : Bool) → (a ≡ true → b ≡ true) → (b ≡ true → a ≡ true) → a ≡ b
same_test true b f g = sym (f refl)
same_test false true f g = g refl
same_test false false f g = refl

pub or_true : (b : Bool) → (b || true) ≡ true
or_true true = refl
or_true false = refl

pub or_grouped : (a b c : Bool) → (a || (b || c)) ≡ ((a || b) || c)
or_grouped true b c = refl
or_grouped false b c = refl

-- a flag that is clear, and a test behind it
pub clear_and : (a b : Bool) → (not a && b) ≡ true → (a ≡ false) × (b ≡ true)
clear_and true b e = cc
clear_and false b e = (refl, e)

pub number_of_test : (a b : ℕ) → nat_eq a b ≡ true → a ≡ b
number_of_test a b h = grind (arith, nat_tests)

pub test_of_number : (a b : ℕ) → a ≡ b → nat_eq a b ≡ true
test_of_number a b h = grind (arith, nat_tests)

pub map_same : {X Y : Type 0} (f g : X → Y) → ((x : X) → f x ≡ g x) → (xs : List X) → map f xs ≡ map g xs
map_same f g same [] = refl
map_same f g same (x ∷ rest) = rw (same x, map_same f g same rest) refl
