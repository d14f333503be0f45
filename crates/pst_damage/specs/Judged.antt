-- Nodes that are judged one after another: those without a fault, and what is told of the others.
use Rattle.std.specs.Prelude.{ℕ, ◌+◌, nat_eq, List, [], ◌∷◌, Option, Some, None, if◌then◌else◌}
use Rattle.pst_fault.specs.declared.fault.Fault.{Fault}
use Rattle.pst_page.specs.declared.entry.NodeEntry.{NodeEntry}
use Rattle.pst_block.specs.Table.{Table}
use Rattle.pst_ndb.specs.Fault.{node_fault}
use Rattle.pst_damage.specs.declared.broken.BrokenNode.{BrokenNode}

-- how nodes are judged: the first fault of each
abbrev pub Judged : Type 0
Judged = NodeEntry → Option Fault

-- those that have none
abbrev pub kept_node : Option Fault → NodeEntry → List NodeEntry → List NodeEntry
kept_node None e rest = e ∷ rest
kept_node (Some f) e rest = rest

unfoldable pub sound_by : Judged → List NodeEntry → List NodeEntry
sound_by part [] = []
sound_by part (e ∷ rest) = kept_node (part e) e (sound_by part rest)

-- the others, each with its fault
abbrev pub told_node : Option Fault → NodeEntry → List BrokenNode → List BrokenNode
told_node None e rest = rest
told_node (Some f) e rest = record { nid = e.nid; fault = f } ∷ rest

unfoldable pub broken_by : Judged → List NodeEntry → List BrokenNode
broken_by part [] = []
broken_by part (e ∷ rest) = told_node (part e) e (broken_by part rest)

-- the sound nodes: neither their data nor their subnodes have a fault
abbrev pub sound_nodes : Table → List NodeEntry → List NodeEntry
sound_nodes t nodes = sound_by (node_fault t) nodes

-- the fault of a node, where it is the one that is told
abbrev pub own_of : ℕ → Option BrokenNode → Option Fault
own_of nid None = None
own_of nid (Some b) = if nat_eq b.nid nid then Some b.fault else None

-- the place of the next one
abbrev pub place_after : Option Fault → ℕ → ℕ
place_after None place = place
place_after (Some f) place = place + 1
