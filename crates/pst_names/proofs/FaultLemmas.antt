-- The fault of an entry, by its 8 bytes.
use Rattle.std.proofs.Common.{◌≡◌, ℕ, true, false, List, Some, None, refl}
use Rattle.pst_fault.specs.declared.kind.Kind.TheVariants.{Property as BadProperty}
use Rattle.pst_fault.specs.Fault.{fault_at}
use Rattle.pst_names.specs.Entry.{entry_in}
use Rattle.pst_names.specs.Fault.{is_entry, name_entry_fault}
use Rattle.pst_names.specs.Known.{allows}

pub allowed_none : (guids : ℕ) (strings : List ℕ) (at : ℕ) (bytes : List ℕ) → allows guids strings bytes ≡ true → name_entry_fault guids strings (entry_in at bytes) ≡ None
unfolding allows name_entry_fault is_entry
allowed_none guids strings at bytes good = rw good refl

pub refused_some : (guids : ℕ) (strings : List ℕ) (at : ℕ) (bytes : List ℕ) → allows guids strings bytes ≡ false → name_entry_fault guids strings (entry_in at bytes) ≡ Some (fault_at BadProperty at)
unfolding allows name_entry_fault is_entry
refused_some guids strings at bytes bad = rw bad refl
