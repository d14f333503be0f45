-- The messages of a folder as a document ([MS-PST] 2.4.4.5).
use Rattle.std.specs.Prelude.{ℕ, Option, Some, None, List, Result, Ok, Err, codes, if◌then◌else◌}
use Rattle.serde_json.specs.Data.{Data, null, object, member, no_members}
use Rattle.pst_fault.specs.declared.fault.Fault.{Fault}
use Rattle.pst_page.specs.declared.entry.NodeEntry.{NodeEntry}
use Rattle.pst_block.specs.Table.{Table}
use Rattle.pst_ndb.specs.Roots.{Roots, node_in}
use Rattle.pst_value_json.specs.pst_tc.Values.{RowParts}
use Rattle.pst_verify.specs.pst_msg.pst_mail.declared.items.Items.TheVariants.{Messages}
use Rattle.pst_verify.specs.pst_msg.pst_mail.declared.nid.TheConstants.{FOLDER}
use Rattle.pst_verify.specs.pst_msg.Nid.{is_type}
use Rattle.pst_verify.specs.pst_msg.Shown.{rows_there, folder_table}
use Rattle.pst_verify.specs.pst_msg.Values.{is_message}
unfoldable pub use Rattle.pst_verify.specs.pst_store.Kind.{node_of_kind}
use Rattle.pst_whole.specs.Lost.{LostParts, told_lost}
use Rattle.pst_damage_json.specs.Faults.{fault_data}
use Rattle.pst_props.specs.declared.fault.DocFault.{DocFault}
use Rattle.pst_props.specs.declared.fault.DocFault.TheVariants.{NoFolder, Bad}
use Rattle.pst_props.specs.declared.texts.TheConstants.{CLASS, SENDER, SUBJECT}
use Rattle.pst_json.specs.Folders.{table_told}
use Rattle.pst_props.specs.Texts.{text_property}
use Rattle.pst_props.specs.Told.{lined}
use Rattle.pst_value_json.specs.pst_text.Names.{nid_data}
use Rattle.pst_value_json.specs.pst_text.Parts.{list_data}

-- the text of a property of a node, where that is there
abbrev pub text_there : Table → Option Roots → ℕ → Data
text_there t None id = null
text_there t (Some r) id = text_property t r id

-- the message that a row names: its class, its identifier, who sent it, and its subject
unfoldable pub listed_message_data : Table → List NodeEntry → RowParts → Data
listed_message_data t nodes x =
    object
    (member (codes "class") (text_there t (node_of_kind is_message nodes x.id) CLASS)
    (member (codes "nid") (nid_data x.id)
    (member (codes "sender") (text_there t (node_of_kind is_message nodes x.id) SENDER)
    (member (codes "subject") (text_there t (node_of_kind is_message nodes x.id) SUBJECT)
    no_members))))

-- in place of a message of which something is told, that fault and its identifier
unfoldable pub told_data : Fault → ℕ → Data
told_data f nid = object (member (codes "fault") (fault_data f) (member (codes "nid") (nid_data nid) no_members))

abbrev pub told_or_listed : Option Fault → Table → List NodeEntry → RowParts → Data
told_or_listed None t nodes x = listed_message_data t nodes x
told_or_listed (Some f) t nodes x = told_data f x.id

-- a row
unfoldable pub listed_row_data : Table → List NodeEntry → LostParts → RowParts → Data
listed_row_data t nodes lost x = told_or_listed (told_lost lost x.id) t nodes x

-- the messages of a folder, their identifiers rising
unfoldable pub contents_data : Table → List NodeEntry → LostParts → ℕ → Data
contents_data t nodes lost nid =
    object
    (member (codes "folder") (nid_data nid)
    (member (codes "messages") (list_data (listed_row_data t nodes lost) (rows_there t (folder_table nodes Messages nid)))
    no_members))

-- where nothing is told
abbrev pub unless_fault : {X : Type 0} → Option Fault → Result X DocFault → Result X DocFault
unless_fault None answer = answer
unless_fault (Some f) answer = Err (Bad f)

abbrev pub contents_there : Table → List NodeEntry → LostParts → ℕ → Option Roots → Result Data DocFault
contents_there t nodes lost nid None = Err NoFolder
contents_there t nodes lost nid (Some r) = unless_fault (table_told lost Messages nid) (Ok (contents_data t nodes lost nid))

-- The document of a folder, which is a node of type 02; there is none of any other. First is told of what lies behind a broken page,
-- whatever its type; then of the folder, and then of its contents table.
unfoldable pub contents_of : Table → List NodeEntry → LostParts → ℕ → Result Data DocFault
contents_of t nodes lost nid =
    unless_fault (lost.behind nid)
    (if is_type FOLDER nid then unless_fault (lost.own nid) (contents_there t nodes lost nid (node_in nodes nid)) else Err NoFolder)

-- the line that shows it
unfoldable pub contents_line : Table → List NodeEntry → LostParts → ℕ → Result (List ℕ) DocFault
contents_line t nodes lost nid = lined (contents_of t nodes lost nid)
