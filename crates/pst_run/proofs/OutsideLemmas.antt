-- Whether more of a file is looked at, by the first fault of its header.
use Rattle.std.proofs.Common.{◌≡◌, ◌≤◌, ℕ, Bool, true, false, List, length, Option, Some, None, Ok, Err, refl, sym, ap, ◌∙◌}
use Rattle.std.specs.Prelude.{nat_le}
use Rattle.std.proofs.lemmas.Bool.{leb-true}
use Rattle.pst_fault.specs.declared.fault.Fault.{Fault}
use Rattle.pst_fault.specs.declared.kind.Kind.TheVariants.{Short}
use Rattle.pst_fault.specs.Fault.{fault_at}
use Rattle.pst_fault.specs.First.{◌then◌, answer, holds_or}
use Rattle.pst_header.specs.declared.header.Header.{Header}
use Rattle.pst_header.specs.Header.{header_fault, fields}
use Rattle.pst_run.specs.Outside.{if_outside, is_outside, outside_fault}

told : (o : Option Fault) (h : Header) (f : Fault) → answer o h ≡ Err f → o ≡ Some f
told None h f is = absurd cc
told (Some g) h f is = cc

untold : (o : Option Fault) (h k : Header) → answer o h ≡ Ok k → o ≡ None
untold None h k is = refl
untold (Some g) h k is = absurd cc

pub is_outside_fault : (I : List ℕ) (f : Fault) → Err f ≡ answer (header_fault I) (fields I) → is_outside f.kind ≡ true → outside_fault I ≡ Some f
unfolding outside_fault
is_outside_fault I f is outside = ap if_outside (told (header_fault I) (fields I) f (sym is)) ∙ rw outside refl

pub is_inside : (I : List ℕ) (h : Header) → Ok h ≡ answer (header_fault I) (fields I) → outside_fault I ≡ None
unfolding outside_fault
is_inside I h is = ap if_outside (untold (header_fault I) (fields I) h (sym is))

pub is_inside_too : (I : List ℕ) (f : Fault) → Err f ≡ answer (header_fault I) (fields I) → is_outside f.kind ≡ false → outside_fault I ≡ None
unfolding outside_fault
is_inside_too I f is inside = ap if_outside (told (header_fault I) (fields I) f (sym is)) ∙ rw inside refl

-- what is too short is not looked at
long_enough : (I : List ℕ) (b : Bool) (rest : Option Fault) → nat_le 564 (length I) ≡ b → if_outside (holds_or b (fault_at Short 0) then rest) ≡ None → 564 ≤ length I
long_enough I true rest is none = leb-true 564 (length I) is
long_enough I false rest is none = absurd cc

pub header_there : (I : List ℕ) → outside_fault I ≡ None → 564 ≤ length I
unfolding outside_fault header_fault
header_there I none = long_enough I (nat_le 564 (length I)) _ refl none
