-- All messages of a store, a line for each ([MS-PST] 2.4.5).
use Rattle.std.specs.Prelude.{ℕ, Bool, nat_eq, Option, Some, None, List, length, map, codes, if◌then◌else◌}
use Rattle.std.specs.List.{concat, filter, list_any}
use Rattle.serde_json.specs.Data.{Data, null, object, member, no_members}
use Rattle.pst_page.specs.declared.entry.NodeEntry.{NodeEntry}
use Rattle.pst_block.specs.Table.{Table}
use Rattle.pst_btree.specs.Entries.{first_with}
use Rattle.pst_ndb.specs.Roots.{Roots, all_roots, subnode_of}
use Rattle.pst_value_json.specs.pst_pc.Values.{Property, id_of, props_of}
use Rattle.pst_value_json.specs.pst_tc.Values.{RowParts}
use Rattle.pst_verify.specs.pst_msg.pst_mail.declared.items.Items.TheVariants.{Messages}
use Rattle.pst_verify.specs.pst_msg.pst_mail.declared.nid.TheConstants.{MESSAGE}
use Rattle.pst_verify.specs.pst_msg.Nid.{is_type}
use Rattle.pst_verify.specs.pst_msg.Shown.{attachment_rows, rows_there, folder_table}
use Rattle.pst_verify.specs.pst_msg.Values.{is_folder}
use Rattle.pst_verify.specs.pst_store.Kind.{of_kind}
use Rattle.pst_json.specs.declared.messages.TheConstants.{RECEIVED, SENT, SIZE}
use Rattle.pst_props.specs.declared.texts.TheConstants.{CLASS, SENDER, SUBJECT}
use Rattle.pst_json.specs.Folders.{row_total}
use Rattle.pst_props.specs.Texts.{text_property}
use Rattle.pst_props.specs.Node.{recipient_nid}
use Rattle.pst_value_json.specs.pst_text.Line.{data_line}
use Rattle.pst_value_json.specs.pst_text.Names.{nid_data}
use Rattle.pst_value_json.specs.pst_text.Parts.{natural, list_data}
use Rattle.pst_value_json.specs.pst_text.Time.{time_or_null, i32_or_null}

-- ---- the folders that list a message

-- a row names this node
abbrev pub names : ℕ → RowParts → Bool
names nid x = nat_eq nid x.id

-- the contents table of a folder has a row for it; a search folder has no such table
abbrev pub lists : Table → List NodeEntry → ℕ → Roots → Bool
lists t nodes nid folder = list_any (names nid) (rows_there t (folder_table nodes Messages folder.top))

abbrev pub top_of_roots : Roots → ℕ
top_of_roots r = r.top

-- the identifiers of the folders whose contents table has a row for it, rising
unfoldable pub listed_in : Table → List NodeEntry → ℕ → List ℕ
listed_in t nodes nid = map top_of_roots (filter (lists t nodes nid) (of_kind is_folder (all_roots nodes)))

-- ---- its times, and its size

-- the time of a property, where it is there and is a time
abbrev pub time_in : Option Property → Data
time_in None = null
time_in (Some p) = if nat_eq p.kind 0x0040 then time_or_null p.bytes else null

unfoldable pub time_property : Table → Roots → ℕ → Data
time_property t r id = time_in (first_with id_of id (props_of t r))

-- the number of a property, where it is there and is one
abbrev pub number_or_null : Option Property → Data
number_or_null None = null
number_or_null (Some p) = if nat_eq p.kind 0x0003 then i32_or_null p.bytes else null

unfoldable pub number_property : Table → Roots → ℕ → Data
number_property t r id = number_or_null (first_with id_of id (props_of t r))

-- ---- the lines

-- a message in short: how many attachments and recipients it has, its class, the folders that list it, its identifier, when it
-- was received and sent, who sent it, its size, and its subject
unfoldable pub summary_data : Table → Roots → List ℕ → Data
summary_data t r folders =
    object
    (member (codes "attachments") (natural (length (attachment_rows t r)))
    (member (codes "class") (text_property t r CLASS)
    (member (codes "folders") (list_data nid_data folders)
    (member (codes "nid") (nid_data r.top)
    (member (codes "received") (time_property t r RECEIVED)
    (member (codes "recipients") (natural (row_total t (subnode_of t r recipient_nid)))
    (member (codes "sender") (text_property t r SENDER)
    (member (codes "sent") (time_property t r SENT)
    (member (codes "size") (number_property t r SIZE)
    (member (codes "subject") (text_property t r SUBJECT)
    no_members))))))))))

-- the line of a message
unfoldable pub summary_line : Table → List NodeEntry → Roots → List ℕ
summary_line t nodes r = data_line (summary_data t r (listed_in t nodes r.top))

-- those of the messages among some nodes
abbrev pub summary_lines : Table → List NodeEntry → List Roots → List ℕ
summary_lines t nodes rs = concat (map (summary_line t nodes) (of_kind (is_type MESSAGE) rs))

-- the lines of all messages, their identifiers rising
unfoldable pub messages_text : Table → List NodeEntry → List ℕ
messages_text t nodes = summary_lines t nodes (all_roots nodes)
