-- Files of which no more is looked at.
use Rattle.std.specs.Prelude.{ℕ, Bool, true, false, List, Option, Some, None, if◌then◌else◌}
use Rattle.pst_fault.specs.declared.fault.Fault.{Fault}
use Rattle.pst_fault.specs.declared.kind.Kind.{Kind}
use Rattle.pst_fault.specs.declared.kind.Kind.TheVariants.{Short, Magic, Version, Encoded}
use Rattle.pst_header.specs.Header.{header_fault}

-- A file with a fault of this kind is no .pst of the version that is read here, or is encoded: nothing else is said of it.
abbrev pub is_outside : Kind → Bool
is_outside Short = true
is_outside Magic = true
is_outside (Version n) = true
is_outside (Encoded n) = true
is_outside kind = false

-- the first fault of a header, where it is of such a kind
abbrev pub if_outside : Option Fault → Option Fault
if_outside None = None
if_outside (Some f) = if is_outside f.kind then Some f else None

unfoldable pub outside_fault : List ℕ → Option Fault
outside_fault I = if_outside (header_fault I)
