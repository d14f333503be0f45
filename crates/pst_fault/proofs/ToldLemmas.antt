-- A fault whose owner is named above it: the first of two stays the first.
use Rattle.std.proofs.Common.{◌≡◌, Option, Some, None, refl}
use Rattle.std.specs.Prelude.{option_map}
use Rattle.pst_fault.specs.declared.fault.Fault.{Fault}
use Rattle.pst_fault.specs.First.{◌then◌}

pub told_none : (g : Fault → Fault) (o : Option Fault) → option_map g o ≡ None → o ≡ None
told_none g None e = refl
told_none g (Some f) e = absurd cc

pub none_told : (g : Fault → Fault) (o : Option Fault) → o ≡ None → option_map g o ≡ None
none_told g o e = rw e refl

pub told_some : (g : Fault → Fault) (o : Option Fault) (f : Fault) → option_map g o ≡ Some f → (x : Fault) × (o ≡ Some x) × (g x ≡ f)
told_some g None f e = absurd cc
told_some g (Some x) f e = (x, refl, cc)

pub told_first : (g : Fault → Fault) (a b : Option Fault) (f : Fault) → option_map g a ≡ Some f → option_map g (a then b) ≡ Some f
told_first g None b f e = absurd cc
told_first g (Some x) b f e = e

pub told_next : (g : Fault → Fault) (a b : Option Fault) → option_map g a ≡ None → option_map g (a then b) ≡ option_map g b
told_next g None b e = refl
told_next g (Some x) b e = absurd cc
