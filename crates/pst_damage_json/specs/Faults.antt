-- A fault as JSON.
use Rattle.std.specs.Prelude.{Option, Some, None, codes}
use Rattle.serde_json.specs.Data.{Data, null, string, object, member, no_members}
use Rattle.pst_fault.specs.declared.fault.Fault.{Fault}
use Rattle.pst_fault.specs.Kind.{number_of, kind_text}
use Rattle.pst_value_json.specs.pst_text.Names.{nid_data}
use Rattle.pst_value_json.specs.pst_text.Parts.{natural}

-- The place and the kind, by its name and its number. The members stand in the order of their keys' bytes.
unfoldable pub fault_data : Fault → Data
fault_data f =
    object
    (member (codes "at") (natural f.place.at)
    (member (codes "bid") (natural f.place.bid)
    (member (codes "kind") (string (kind_text f.kind))
    (member (codes "nid") (nid_data f.place.nid)
    (member (codes "number") (natural (number_of f.kind))
    no_members)))))

-- a fault, or null where there is none
abbrev pub fault_or_null : Option Fault → Data
fault_or_null None = null
fault_or_null (Some f) = fault_data f
