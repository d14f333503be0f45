-- A file that is not encoded is its own plain twin.
use Rattle.std.proofs.Common.{◌≡◌, ◌<◌, ap, sym, refl, ℕ, List, length, Option, None, Some, arith}
use Rattle.std.specs.Prelude.{Bool, true, false, if◌then◌else◌, IfNone, nat_le}
use Rattle.std.proofs.lemmas.Bool.Decides.{nat_tests}
use Rattle.pst_bytes.specs.Image.{num}
use Rattle.pst_encoding.specs.Method.{method_with}
use Rattle.pst_encoding.specs.declared.method.Method.{Method}
use Rattle.pst_plain.specs.Twin.{is_unicode, method_of, twin_by, twin_of}

either_none : (b : Bool) (o : Option Method) → o ≡ None → (if b then o else None) ≡ None
either_none true o none = none
either_none false o none = refl

-- no number of a method stands in the header
pub other_has_none : (I : List ℕ) (o : Option Method) → o ≡ method_with (num I 513 1) → IfNone o (method_of I ≡ None)
unfolding method_of
other_has_none I None is = either_none _ (method_with (num I 513 1)) (sym is)
other_has_none I (Some m) is = tt

-- the header is too short
pub short_has_none : (I : List ℕ) → length I < 564 → method_of I ≡ None
unfolding method_of is_unicode
short_has_none I short = let no : nat_le 564 (length I) ≡ false = grind (arith, nat_tests) in rw no refl

pub own_twin : (I : List ℕ) → method_of I ≡ None → I ≡ twin_of I
unfolding twin_of
own_twin I none = sym (ap (λ m. twin_by m I) none)
