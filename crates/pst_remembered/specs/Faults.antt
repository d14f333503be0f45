-- The faults of parts of nodes that were met. A part may be told of any node that leads to it: its fault is remembered once, and
-- told of each.
use Rattle.std.specs.Prelude.{◌≡◌, ℕ, Option, Some}
use Rattle.std.specs.BTreeMap.{get}
use Rattle.pst_fault.specs.declared.fault.Fault.{Fault}
use Rattle.pst_fault.specs.declared.kind.Kind.TheVariants.{NoMemory}
use Rattle.pst_remembered.specs.Keys.{Key, key_cmp}
use Rattle.pst_remembered.specs.declared.faults.Faults.{Faults}

-- parts of one sort, by the identifiers of the blocks of their data and of their subnodes, as they are written, and a number: the
-- first fault of each, told of a node
abbrev pub Parts : Type 0
Parts = Key → ℕ → Option Fault

-- how a fault that was told of one node is told of another
abbrev pub Retelling : Type 0
Retelling = ℕ → Fault → Fault

-- This is the fault of a part, whichever node it is told of.
abbrev pub IsFaultOf : Retelling → Parts → Key → Fault → Type 0
IsFaultOf retell part q f = (nid : ℕ) → part q nid ≡ Some (retell nid f)

-- the fault that is remembered of a part
unfoldable pub fault_kept : Faults → Key → Option Fault
fault_kept faults q = get key_cmp faults.faults q

-- What is remembered is true: each remembered fault is the fault of its part.
unfoldable pub AreFaultsOf : Retelling → Parts → Faults → Type 0
AreFaultsOf retell part faults = (q : Key) (f : Fault) → fault_kept faults q ≡ Some f → IsFaultOf retell part q f

-- memory was not refused
abbrev pub IsTold : Fault → Type 0
IsTold f = f.kind ≡ NoMemory → ⊥
