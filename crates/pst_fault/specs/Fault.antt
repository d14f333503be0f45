-- Faults by their places, and the line that a refusal prints.
use Rattle.std.specs.Prelude.{ℕ, List, ◌++◌, codes, false}
use Rattle.std.specs.Fmt.{decimal, digits}
use Rattle.pst_fault.specs.declared.fault.Fault.{Fault}
use Rattle.pst_fault.specs.declared.kind.Kind.{Kind}
use Rattle.pst_fault.specs.declared.kind.Kind.TheVariants.{NoMemory}
use Rattle.pst_fault.specs.Kind.{number_of, kind_text}

-- a fault at an offset in the file, that names no block and no node
abbrev pub fault_at : Kind → ℕ → Fault
fault_at kind at = record { kind = kind; place = record { at = at; bid = 0; nid = 0 } }

-- a fault at an offset, in the page or block with this identifier
abbrev pub fault_in : Kind → ℕ → ℕ → Fault
fault_in kind at bid = record { kind = kind; place = record { at = at; bid = bid; nid = 0 } }

-- the fault, found under a node
abbrev pub at_node : ℕ → Fault → Fault
at_node nid f = record { kind = f.kind; place = record { at = f.place.at; bid = f.place.bid; nid = nid } }

-- memory ran out
abbrev pub no_memory : Fault
no_memory = fault_at NoMemory 0

-- lower-case hexadecimal digits, without leading zeros
abbrev pub hex : ℕ → List ℕ
hex n = digits 16 false n

-- the line, without its line feed
abbrev pub fault_text : Fault → List ℕ
fault_text f =
    codes "no: " ++ decimal (number_of f.kind) ++ codes " " ++ kind_text f.kind
    ++ codes " at 0x" ++ hex f.place.at ++ codes " bid 0x" ++ hex f.place.bid ++ codes " nid 0x" ++ hex f.place.nid
