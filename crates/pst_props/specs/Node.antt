-- The properties of a node as a document ([MS-PST] 2.3.3), and of a message also its attachments and recipients (2.4.5).
use Rattle.std.specs.Prelude.{ℕ, Bool, true, false, Option, Some, None, option_map, List, Result, map, codes}
use Rattle.serde_json.specs.Data.{Data, array, no_items, object, member, no_members}
use Rattle.pst_page.specs.declared.entry.NodeEntry.{NodeEntry}
use Rattle.pst_block.specs.Table.{Table}
use Rattle.pst_ndb.specs.Roots.{Roots, subnode_of}
use Rattle.pst_value_json.specs.pst_names.Name.{NameParts, store_name}
use Rattle.pst_value_json.specs.pst_pc.Values.{pc_records}
use Rattle.pst_value_json.specs.pst_tc.Values.{tc_rows}
use Rattle.pst_verify.specs.pst_msg.pst_mail.declared.object.Object.{Object}
use Rattle.pst_verify.specs.pst_msg.Shown.{Shown, row_shown, attachment_rows}
use Rattle.pst_verify.specs.pst_msg.Values.{embedded_of}
use Rattle.pst_props.specs.declared.fault.DocFault.{DocFault}
use Rattle.pst_value_json.specs.declared.filed.Filed.{Filed}
use Rattle.pst_value_json.specs.declared.filed.Filed.TheVariants.{Nothing, Message, Attachment}
use Rattle.pst_value_json.specs.Cells.{table_row_data}
use Rattle.pst_value_json.specs.pst_text.Names.{nid_data, nid_or_null}
use Rattle.pst_value_json.specs.pst_text.Parts.{list_data}
use Rattle.pst_value_json.specs.Props.{record_data}
use Rattle.pst_props.specs.Path.{Place, message, attachment, other, found_at}
use Rattle.pst_props.specs.Told.{lined, told_or_fault}

-- the properties of a node, which are called so, with files in place of these values, and with their places where these are told
abbrev pub props_data : (ℕ → Option NameParts) → Filed → Bool → Table → Roots → Data
props_data names filed places t r = list_data (record_data names filed places t r) (pc_records t r)

-- of a subnode, where that is there
abbrev pub props_there : (ℕ → Option NameParts) → Filed → Bool → Table → Option Roots → Data
props_there names filed places t None = array no_items
props_there names filed places t (Some r) = props_data names filed places t r

-- the identifier of the message that an attachment embeds
abbrev pub nid_of_object : Object → ℕ
nid_of_object o = o.nid

abbrev pub embedded_there : Table → Option Roots → Option ℕ
embedded_there t None = None
embedded_there t (Some r) = option_map nid_of_object (embedded_of t r)

-- an attachment: the message that it embeds, its identifier, and its properties
unfoldable pub attachment_data : (ℕ → Option NameParts) → Filed → Bool → Table → Shown → Data
attachment_data names filed places t s =
    object
    (member (codes "embedded") (nid_or_null (embedded_there t s.roots))
    (member (codes "nid") (nid_data s.nid)
    (member (codes "props") (props_there names filed places t s.roots)
    no_members)))

-- of which of their values files are told, in the list of a message, where they are told: each in the folder of its attachment
abbrev pub filed_in_list : Bool → ℕ → Filed
filed_in_list false nid = Nothing
filed_in_list true nid = Attachment (Some nid)

abbrev pub listed_data : (ℕ → Option NameParts) → Bool → Bool → Table → Shown → Data
listed_data names files places t s = attachment_data names (filed_in_list files s.nid) places t s

abbrev pub attachments_data : (ℕ → Option NameParts) → Bool → Bool → Table → Roots → Data
attachments_data names files places t r = list_data (listed_data names files places t) (map (row_shown t r) (attachment_rows t r))

-- the identifier of the recipient table among the subnodes of a message
abbrev pub recipient_nid : ℕ
recipient_nid = 0x692

-- the recipients: the rows of a table, where it is there
abbrev pub recipients_there : Bool → Table → Option Roots → Data
recipients_there places t None = array no_items
recipients_there places t (Some x) = list_data (table_row_data places t x) (tc_rows t x)

-- of which values of the message itself files are told, where they are told
abbrev pub filed_of_message : Bool → Filed
filed_of_message false = Nothing
filed_of_message true = Message

-- a message, under the identifier of its node; with files in place of its headers, its bodies and the contents of its attachments,
-- where these are told
unfoldable pub message_data : (ℕ → Option NameParts) → Bool → Bool → Table → Roots → ℕ → Data
message_data names files places t r nid =
    object
    (member (codes "attachments") (attachments_data names files places t r)
    (member (codes "nid") (nid_data nid)
    (member (codes "props") (props_data names (filed_of_message files) places t r)
    (member (codes "recipients") (recipients_there places t (subnode_of t r recipient_nid))
    no_members))))

-- any other property context
unfoldable pub node_props_data : (ℕ → Option NameParts) → Bool → Table → Roots → ℕ → Data
node_props_data names places t r nid = object (member (codes "nid") (nid_data nid) (member (codes "props") (props_data names Nothing places t r) no_members))

-- the document of a place, with properties that are called so
abbrev pub place_data : (ℕ → Option NameParts) → Bool → Table → Place → Data
place_data names places t (message nid r) = message_data names false places t r nid
place_data names places t (attachment nid r) = attachment_data names Nothing places t (record { nid = nid; roots = Some r })
place_data names places t (other nid r) = node_props_data names places t r nid

-- The document of what a path leads to: of a message, an attachment or another property context. Its properties, and those of
-- attachments, are called as the store's name map says. Where places are asked for, each property and each cell has its own.
unfoldable pub props_told : Bool → Table → List NodeEntry → List ℕ → Result Data DocFault
props_told places t nodes path = told_or_fault (place_data (store_name t nodes) places t) (found_at t nodes path)

-- the line that shows it
unfoldable pub props_line : Bool → Table → List NodeEntry → List ℕ → Result (List ℕ) DocFault
props_line places t nodes path = lined (props_told places t nodes path)
