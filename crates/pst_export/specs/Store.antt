-- All files of intact nodes, of a store or of what is whole of a damaged one, and the archive of them.
use Rattle.std.specs.Prelude.{ℕ, ◌+◌, ◌/◌, Bool, nat_lt, false, if◌then◌else◌, Option, Some, None, Result, Ok, Err, List, [], ◌∷◌, ◌++◌, length, map, codes}
use Rattle.std.specs.Prelude.{flat_map}
use Rattle.pst_page.specs.declared.entry.NodeEntry.{NodeEntry}
use Rattle.pst_block.specs.Table.{Table}
use Rattle.pst_ndb.specs.Roots.{Roots, all_roots}
use Rattle.pst_value_json.specs.pst_text.Line.{data_line}
use Rattle.pst_value_json.specs.pst_names.Name.{NameParts, store_name}
use Rattle.pst_json.specs.pst_whole.Lost.{LostParts}
use Rattle.pst_json.specs.Folders.{folders_line}
use Rattle.pst_json.specs.Messages.{messages_text}
use Rattle.pst_json.specs.Node.{node_props_data, props_line}
use Rattle.pst_json.specs.pst_props.declared.fault.DocFault.{DocFault}
use Rattle.pst_json.specs.pst_props.declared.fault.DocFault.TheVariants.{TooManyPaths}
use Rattle.pst_verify.specs.pst_msg.pst_mail.declared.nid.TheConstants.{STORE, MESSAGE, ASSOCIATED}
use Rattle.pst_verify.specs.pst_msg.Nid.{is_type}
use Rattle.pst_verify.specs.pst_msg.Values.{is_folder}
use Rattle.pst_verify.specs.pst_store.Kind.{of_kind}
use Rattle.pst_tar.specs.Archive.{Member, archive_of}
use Rattle.pst_export.specs.Held.{HeldPlace, folder_in, held_in_folder}
use Rattle.pst_export.specs.Files.{member_in, held_files}
use Rattle.pst_export.specs.Time.{time_of}

-- ---- of the store itself

abbrev pub member_named : List ℕ → List ℕ → Member
member_named name bytes = record { name = name; time = 0; bytes = bytes }

-- a node that is no message: what `props` prints of it
abbrev pub node_line : (ℕ → Option NameParts) → Table → Roots → List ℕ
node_line names t r = data_line (node_props_data names false t r r.top)

-- what `damage` prints, where something is broken
abbrev pub damage_file : Option (List ℕ) → List Member
damage_file None = []
damage_file (Some text) = member_named (codes "damage.json") text ∷ []

-- what `props` prints of the store's own node, where it prints something
abbrev pub store_file : Result (List ℕ) DocFault → List Member
store_file (Ok line) = member_named (codes "store.json") line ∷ []
store_file (Err f) = []

-- ---- of a folder

unfoldable pub folder_file : (ℕ → Option NameParts) → Table → Roots → Member
folder_file names t r = member_in (folder_in (codes "folders") r.top) 0 (codes "props.json") (node_line names t r)

abbrev pub folder_files : (ℕ → Option NameParts) → Table → List Roots → List Member
folder_files names t rs = map (folder_file names t) rs

-- ---- of messages of one type, in a folder of that name: each with all that it holds

unfoldable pub message_files : (ℕ → Option NameParts) → Table → List ℕ → Roots → List Member
message_files names t name r = flat_map (held_files names t (time_of t r)) (held_in_folder t name r)

abbrev pub messages_files : (ℕ → Option NameParts) → Table → List ℕ → List Roots → List Member
messages_files names t name rs = flat_map (message_files names t name) rs

-- ---- all of them

abbrev pub of_type : ℕ → List NodeEntry → List Roots
of_type kind nodes = of_kind (is_type kind) (all_roots nodes)

abbrev pub front_files : Table → List NodeEntry → LostParts → List Member
front_files t nodes lost =
    store_file (props_line false t nodes (STORE ∷ []))
    ++ (member_named (codes "folders.json") (folders_line t nodes lost) ∷ member_named (codes "messages.jsonl") (messages_text t nodes) ∷ [])

abbrev pub files_with : (ℕ → Option NameParts) → Table → List NodeEntry → LostParts → List Member
files_with names t nodes lost =
    ((front_files t nodes lost ++ folder_files names t (of_kind is_folder (all_roots nodes)))
    ++ messages_files names t (codes "messages") (of_type MESSAGE nodes))
    ++ messages_files names t (codes "associated") (of_type ASSOCIATED nodes)

-- The files of intact nodes, in order, where this is told of all that is broken, and of others.
unfoldable pub all_files : Option (List ℕ) → Table → List NodeEntry → LostParts → List Member
all_files damage t nodes lost = damage_file damage ++ files_with (store_name t nodes) t nodes lost

-- The archive of them.
abbrev pub archive_text : Option (List ℕ) → Table → List NodeEntry → LostParts → List ℕ
archive_text damage t nodes lost = archive_of (all_files damage t nodes lost)

-- ---- how many messages and attachments there are, each counted once for each path that leads to it

abbrev pub all_held : Table → List ℕ → List Roots → List HeldPlace
all_held t name rs = flat_map (held_in_folder t name) rs

unfoldable pub path_count : Table → List NodeEntry → ℕ
path_count t nodes =
    length (all_held t (codes "messages") (of_type MESSAGE nodes)) + length (all_held t (codes "associated") (of_type ASSOCIATED nodes))

-- There are more paths than a file of so many bytes has that shares no blocks: of 64 bytes one.
abbrev pub has_too_many : ℕ → Table → List NodeEntry → Bool
has_too_many size t nodes = nat_lt (size / 64) (path_count t nodes)

-- The archive, of a file of so many bytes; or that there are too many paths.
abbrev pub export_told : ℕ → Option (List ℕ) → Table → List NodeEntry → LostParts → Result (List ℕ) DocFault
export_told size damage t nodes lost = if has_too_many size t nodes then Err TooManyPaths else Ok (archive_text damage t nodes lost)
