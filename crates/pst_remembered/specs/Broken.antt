-- The faults of contexts, and of what messages hold in their lists of subnodes, as those of parts that any node may lead to.
use Rattle.std.specs.Prelude.{◌≡◌, ℕ, Bool, true, false, if◌then◌else◌}
use Rattle.pst_fault.specs.declared.fault.Fault.{Fault}
use Rattle.pst_fault.specs.declared.kind.Kind.{Kind}
use Rattle.pst_fault.specs.declared.kind.Kind.TheVariants.{Subnode, Heap, HeapId, Bth, Property, Table as BadTable}
use Rattle.pst_fault.specs.Fault.{at_node}
use Rattle.pst_block.specs.Table.{Table}
use Rattle.pst_subnode.specs.declared.check.TheConstants.{LISTS}
use Rattle.pst_ndb.specs.Roots.{Roots}
use Rattle.pst_mail.specs.Fault.{held_fault, below_message}
use Rattle.pst_remembered.specs.Faults.{Parts, Retelling}
use Rattle.pst_remembered.specs.Keys.{Key}
use Rattle.pst_remembered.specs.Roles.{role_with, role_fault}

-- a part as that of a node
abbrev pub roots_at : Key → ℕ → Roots
roots_at q nid = record { top = nid; bid_data = q.0.0; bid_sub = q.0.1 }

-- a context, with the number of its role
abbrev pub context_part : Table → Parts
context_part t q nid = role_fault t (role_with q.1) (roots_at q nid)

-- A fault of the heap of a context, or of a BTH in it, is that of each context with this data, whatever the node's list of subnodes:
-- it is remembered by the data alone, under no list.
abbrev pub is_of_data : Kind → Bool
is_of_data Heap = true
is_of_data Bth = true
is_of_data _ = false

-- a list of subnodes, as the part of it alone: what a message holds in it
abbrev pub list_part : Roots → Key
list_part r = ((0, r.bid_sub), 0)

abbrev pub held_part : Table → Parts
held_part t q nid = held_fault t (below_message t LISTS) (roots_at q nid)

-- A fault of a context is told of the node from which it was reached; another one of a message names what is missing, or of another
-- type.
abbrev pub is_of_a_context : Kind → Bool
is_of_a_context Subnode = true
is_of_a_context Heap = true
is_of_a_context HeapId = true
is_of_a_context Bth = true
is_of_a_context Property = true
is_of_a_context BadTable = true
is_of_a_context _ = false

-- So it is told of another node that leads to the list: a fault of a context of that node, another one as it is.
abbrev pub retold : Retelling
retold nid f = if is_of_a_context f.kind then at_node nid f else f

-- a fault that is told of a node: it is of a context, or names another node
abbrev pub IsAlike : ℕ → Fault → Type 0
IsAlike nid f = is_of_a_context f.kind ≡ false → f.place.nid ≡ nid → ⊥
