-- All that is broken of a file as a document, and its line.
use Rattle.std.specs.Prelude.{ℕ, Option, option_map, List, codes}
use Rattle.serde_json.specs.Data.{Data, object, member, no_members}
use Rattle.pst_damage.specs.declared.broken.BrokenNode.{BrokenNode}
use Rattle.pst_damage.specs.declared.whole.Whole.{Whole}
use Rattle.pst_damage.specs.Damage.{DamageParts}
use Rattle.pst_damage_json.specs.Faults.{fault_data, fault_or_null}
use Rattle.pst_value_json.specs.pst_text.Line.{data_line}
use Rattle.pst_value_json.specs.pst_text.Names.{nid_data}
use Rattle.pst_value_json.specs.pst_text.Parts.{natural, list_data}
use Rattle.pst_value_json.specs.Places.{member_if}
use Rattle.pst_value_json.specs.pst_text.Text.{hex_data}

-- The members of each object stand in the order of their keys' bytes.

-- a node with a fault, and its fault
unfoldable pub broken_data : BrokenNode → Data
broken_data b =
    object
    (member (codes "fault") (fault_data b.fault)
    (member (codes "node") (nid_data b.nid)
    no_members))

-- how many folders, messages and nodes are whole
unfoldable pub whole_data : Whole → Data
whole_data w =
    object
    (member (codes "folders") (natural w.folders)
    (member (codes "messages") (natural w.messages)
    (member (codes "nodes") (natural w.nodes)
    no_members)))

-- with the SHA-256 of the file, where it is told
unfoldable pub damage_data : DamageParts → Option (List ℕ) → Data
damage_data d digest =
    object
    (member (codes "blocks") (list_data fault_data d.blocks)
    (member (codes "header") (fault_or_null d.header)
    (member (codes "maps") (fault_or_null d.maps)
    (member (codes "nodes") (list_data broken_data d.nodes)
    (member (codes "pages") (list_data fault_data d.pages)
    (member_if (codes "sha256") (option_map hex_data digest)
    (member (codes "whole") (whole_data d.whole)
    no_members)))))))

-- the line that shows it
unfoldable pub damage_line : DamageParts → Option (List ℕ) → List ℕ
damage_line d digest = data_line (damage_data d digest)
