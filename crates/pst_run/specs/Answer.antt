-- What each command answers to the bytes of a file.
use Rattle.std.specs.Prelude.{◌≡◌, ℕ, ◌+◌, Bool, true, false, ◌&&◌, ◌==◌, not, if◌then◌else◌, List, [], ◌∷◌, ◌++◌, length, Option, Some, None, is_none, Result, Ok, Err}
use Rattle.pst_fault.specs.declared.fault.Fault.{Fault}
use Rattle.pst_fault.specs.First.{answer}
use Rattle.pst_header.specs.Header.{header_fault, fields}
use Rattle.pst_btree.specs.Tree.{pages_of}
use Rattle.pst_page.specs.declared.entry.NodeEntry.{NodeEntry}
use Rattle.pst_block.specs.Table.{Table}
use Rattle.pst_json.specs.pst_ndb.Database.{blocks_in}
use Rattle.pst_json.specs.pst_ndb.Roots.{all_roots}
use Rattle.pst_json.specs.pst_ndb.Trees.{listed_nodes}
use Rattle.pst_json.specs.pst_msg.Values.{is_folder, is_message}
use Rattle.pst_json.specs.pst_store.Fault.{store_fault}
use Rattle.pst_json.specs.pst_store.Parts.{parts_table, parts_entries}
use Rattle.pst_json.specs.pst_store.Values.{store_in}
use Rattle.pst_json.specs.pst_verify.Counts.{count_of}
use Rattle.pst_json.specs.pst_whole.Lost.{LostParts, lost_of, nothing_lost}
use Rattle.pst_json.specs.pst_whole.Nodes.{whole_nodes}
use Rattle.pst_json.specs.pst_props.declared.fault.DocFault.{DocFault}
use Rattle.pst_export.specs.Export.{archive_in}
use Rattle.pst_export.specs.Store.{export_told}
use Rattle.pst_json.specs.Check.{ReportParts, check_line}
use Rattle.pst_json.specs.Contents.{contents_line, unless_fault}
use Rattle.pst_json.specs.Folders.{folders_line}
use Rattle.pst_json.specs.Head.{head_line}
use Rattle.pst_json.specs.Messages.{messages_text}
use Rattle.pst_json.specs.Node.{props_line}
use Rattle.pst_json.specs.Nodes.{nodes_line}
use Rattle.pst_json.specs.Path.{path_told}
use Rattle.pst_json.specs.Told.{told_or_fault}
use Rattle.pst_json.specs.Property.{property_by_path, written_of}
use Rattle.pst_encoding.specs.declared.method.Method.{Method}
use Rattle.pst_plain.specs.Twin.{method_of, twin_of}
use Rattle.pst_remains.specs.Decoded.{decoded_remains_of}
use Rattle.pst_remains.specs.Remains.{RemainsParts, remains_of}
use Rattle.pst_damage.specs.Damage.{DamageParts, damage_in, damage_of}
use Rattle.pst_damage_json.specs.Damage.{damage_line}
use Rattle.sha2.specs.Sha256.{sha256}
use Rattle.pst_datatree.specs.Shown.{bytes_in}
use Rattle.pst_run.specs.declared.shown.Shown.{Shown}
use Rattle.pst_run.specs.declared.shown.Text.{Text}
use Rattle.pst_run.specs.declared.shown.Text.TheVariants.{Made, Lent, Archive}
use Rattle.pst_ask.specs.Ask.{Asked, Wanted, report, damage, head, nodes, folders, contents, messages, props, value, export}
use Rattle.pst_run.specs.declared.refusal.Refusal.{Refusal}
use Rattle.pst_run.specs.Outside.{outside_fault}
use Rattle.pst_run.specs.Refusal.{Refused, fault, document, input, output, memory, refused_of, refusal_of, refusal_for}

-- ---- of which bytes

-- the bytes of which a command shows something: those of the file, or of its plain twin where it is to be decoded
abbrev pub bytes_for : Bool → List ℕ → List ℕ
bytes_for decode bytes = if decode then twin_of bytes else bytes

-- the digest that is told: that of the bytes as they lie in the file, where it is asked for
abbrev pub digest_for : Wanted → List ℕ → Option (List ℕ)
digest_for (report strict true) bytes = Some (sha256 bytes)
digest_for (damage true) bytes = Some (sha256 bytes)
digest_for ask bytes = None

-- ---- what is shown: a text, and whether the run ends with status 1 all the same

pub record ToldText : Type 0 where
  pub text : List ℕ
  pub fails : Bool
  -- it is made as it is written
  pub streamed : Bool

-- the bytes that are written
abbrev pub bytes_shown : Text → List ℕ
bytes_shown (Made text) = text.items
bytes_shown (Lent lent) = bytes_in lent
bytes_shown (Archive e) = archive_in e

-- it is made as it is written
abbrev pub is_streamed : Text → Bool
is_streamed (Made text) = false
is_streamed (Lent lent) = false
is_streamed (Archive e) = true

abbrev pub told_in : Shown → ToldText
told_in s = record { text = bytes_shown s.text; fails = s.fails; streamed = is_streamed s.text }

abbrev pub plain : List ℕ → ToldText
plain text = record { text = text; fails = false; streamed = false }

-- ---- of the header, and of both trees

-- the line of what a check found, or the fault for which the file is refused
abbrev pub line_or_fault : {X : Type 0} → (X → List ℕ) → Result X Fault → Result ToldText Refused
line_or_fault line (Ok x) = Ok (plain (line x))
line_or_fault line (Err f) = Err (refusal_of f)

-- ---- of a store

-- what is told of bytes that are a store; else their first fault
abbrev pub of_store : Option Fault → Result ToldText Refused → Result ToldText Refused
of_store None told = told
of_store (Some f) told = Err (refusal_of f)

-- its report
abbrev pub report_in : List ℕ → ReportParts
report_in I = let s = store_in I in record {
  pages = length (pages_of s.blocks) + length (pages_of s.nodes);
  blocks = length (blocks_in I s.blocks);
  nodes = length (parts_entries I s);
  folders = count_of is_folder (all_roots (parts_entries I s));
  messages = count_of is_message (all_roots (parts_entries I s));
  order = s.order;
  lost = s.lost;
}

-- a strict check fails where there are lost runs
abbrev pub report_told : Bool → Option (List ℕ) → ReportParts → ToldText
report_told strict digest r = record { text = check_line r digest; fails = strict && not (length r.lost == 0); streamed = false }

-- its blocks, and the entries of its node B-tree
abbrev pub table_of_file : List ℕ → Table
table_of_file I = parts_table I (store_in I)

abbrev pub entries_of_file : List ℕ → List NodeEntry
entries_of_file I = parts_entries I (store_in I)

-- nothing is broken
abbrev pub is_whole : DamageParts → Bool
is_whole d = is_none d.header && is_none d.maps && length d.pages == 0 && length d.blocks == 0 && length d.nodes == 0

-- what is told of all that is broken, with the digest of the file where it is asked for; it fails where something is
abbrev pub damage_told : Option (List ℕ) → DamageParts → ToldText
damage_told digest d = record { text = damage_line d digest; fails = not (is_whole d); streamed = false }

-- a line or a value, or that there is none of the folder or at the path with these identifiers
abbrev pub line_at : List ℕ → Result (List ℕ) DocFault → Result ToldText Refused
line_at path (Ok line) = Ok (plain line)
line_at path (Err f) = Err (refusal_for path f)

-- a text before the answer
abbrev pub behind : List ℕ → Result ToldText Refused → Result ToldText Refused
behind text (Ok told) = Ok (record told { text = text ++ told.text })
behind text (Err r) = Err r

abbrev pub in_front : Result ToldText Refused → Result ToldText Refused → Result ToldText Refused
in_front (Ok told) rest = behind told.text rest
in_front (Err r) rest = Err r

-- the lines of paths, one after another; where one has none, the first of these
unfoldable pub lines_of_paths : (List ℕ → Result (List ℕ) DocFault) → List (List ℕ) → Result ToldText Refused
lines_of_paths line [] = Ok (plain [])
lines_of_paths line (path ∷ rest) = in_front (line_at path (line path)) (lines_of_paths line rest)

-- an archive, or why there is none
abbrev pub archive_told : Result (List ℕ) DocFault → Result ToldText Refused
archive_told (Ok text) = Ok (record { text = text; fails = false; streamed = true })
archive_told (Err f) = Err (refusal_for [] f)

-- ---- of intact nodes, over these blocks, where this is told of others

abbrev pub contents_read : Table → List NodeEntry → LostParts → ℕ → Result ToldText Refused
contents_read t entries lost nid = line_at (nid ∷ []) (contents_line t entries lost nid)

-- a line, unless something is told of the node with which the path begins
abbrev pub path_read : Bool → Table → List NodeEntry → LostParts → List ℕ → Result (List ℕ) DocFault
path_read places t entries lost path = unless_fault (path_told lost path) (props_line places t entries path)

abbrev pub props_read : Bool → Table → List NodeEntry → LostParts → List (List ℕ) → Result ToldText Refused
props_read places t entries lost paths = lines_of_paths (path_read places t entries lost) paths

abbrev pub value_read : Bool → Table → List NodeEntry → LostParts → List ℕ → ℕ → Result ToldText Refused
value_read text t entries lost path id =
    line_at path (unless_fault (path_told lost path) (told_or_fault (written_of text) (property_by_path t entries path id)))

-- the commands that read nodes
abbrev pub reads : Wanted → Bool
reads folders = true
reads (contents nid) = true
reads messages = true
reads (props places paths) = true
reads (value text path id) = true
reads export = true
reads (report strict digested) = false
reads (damage digested) = false
reads head = false
reads nodes = false

-- what each of them shows; of the others nothing is said here. An archive is of a file of so many bytes, and has what is told of all
-- that is broken, where something is.
unfoldable pub read_with : Wanted → ℕ → Option (List ℕ) → Table → List NodeEntry → LostParts → Result ToldText Refused
read_with folders size broken t entries lost = Ok (plain (folders_line t entries lost))
read_with (contents nid) size broken t entries lost = contents_read t entries lost nid
read_with messages size broken t entries lost = Ok (plain (messages_text t entries))
read_with (props places paths) size broken t entries lost = props_read places t entries lost paths
read_with (value text path id) size broken t entries lost = value_read text t entries lost path id
read_with export size broken t entries lost = archive_told (export_told size broken t entries lost)
read_with ask size broken t entries lost = Ok (plain [])

-- of a store, all of whose nodes are intact: nothing is told of others, and nothing is broken
abbrev pub read_of_store : Wanted → List ℕ → Result ToldText Refused
read_of_store ask I =
    of_store (store_fault I) (read_with ask (length I) None (table_of_file I) (entries_of_file I) nothing_lost)

-- ---- all of them

-- The text that a command shows of these bytes, with this digest, and whether it fails; or why it refuses them. `head` shows
-- the fields of a good header, and else answers its first fault. `nodes` shows the nodes of two trees without fault, and else
-- answers the first fault of the header and of both walks. `damage` shows all that is broken, and answers only that a file is outside
-- of what it looks at. The others show a store, and else answer the first fault of the bytes as one.
unfoldable pub answer_with : Wanted → Option (List ℕ) → List ℕ → Result ToldText Refused
answer_with (report strict digested) digest I = of_store (store_fault I) (Ok (report_told strict digest (report_in I)))
answer_with (damage digested) digest I = of_store (outside_fault I) (Ok (damage_told digest (damage_of I)))
answer_with head digest I = line_or_fault head_line (answer (header_fault I) (fields I))
answer_with nodes digest I = line_or_fault nodes_line (listed_nodes I)
answer_with folders digest I = read_of_store folders I
answer_with messages digest I = read_of_store messages I
answer_with (contents nid) digest I = read_of_store (contents nid) I
answer_with (props places paths) digest I = read_of_store (props places paths) I
answer_with (value text path id) digest I = read_of_store (value text path id) I
answer_with export digest I = read_of_store export I

-- All that is broken of an encoded file: it is judged as it is stored, and then its blocks without fault are decoded, and the
-- nodes looked at. A file that is not encoded is answered as it is.
abbrev pub decoded_damage : Option Method → Option (List ℕ) → List ℕ → Result ToldText Refused
decoded_damage None digest I = of_store (outside_fault I) (Ok (damage_told digest (damage_of I)))
decoded_damage (Some method) digest I = Ok (damage_told digest (damage_in (decoded_remains_of method I)))

abbrev pub is_damage : Wanted → Bool
is_damage (damage digested) = true
is_damage ask = false

-- all that is broken is asked for, of a file that is to be decoded
abbrev pub is_decoded_damage : Asked → Bool
is_decoded_damage a = is_damage a.ask && a.decode

-- ---- of what is whole of a damaged file

-- the line of `damage`, where something is broken
abbrev pub broken_told : DamageParts → Option (List ℕ)
broken_told d = if is_whole d then None else Some (damage_line d None)

-- what an archive has of it; the other commands have nothing
abbrev pub broken_for : Wanted → DamageParts → Option (List ℕ)
broken_for export d = broken_told d
broken_for ask d = None

-- The nodes that are left of it and have no fault, over the blocks without fault; of the others their fault is told, and of what lies
-- behind a broken page that of the page.
abbrev pub read_left : Wanted → ℕ → RemainsParts → Result ToldText Refused
read_left ask size r =
    read_with ask size (broken_for ask (damage_in r)) r.table (whole_nodes r.table r.nodes r.broken)
    (lost_of r.table r.nodes r.broken)

-- An encoded file is judged as it is stored, and then its blocks without fault are decoded.
abbrev pub whole_by : Option Method → Wanted → List ℕ → Result ToldText Refused
whole_by None ask I = of_store (outside_fault I) (read_left ask (length I) (remains_of I))
whole_by (Some method) ask I = read_left ask (length I) (decoded_remains_of method I)

-- how a file is to be decoded, where that is asked for
abbrev pub method_for : Bool → List ℕ → Option Method
method_for decode I = if decode then method_of I else None

-- what is whole is asked for, by a command that reads nodes
abbrev pub is_of_whole : Asked → Bool
is_of_whole a = a.whole && reads a.ask

-- ---- the answer

-- The same of the bytes of a file, with the digest of the file as it is: of its plain twin where that is asked for, but of all that is
-- broken, and of what is whole, where the file is judged as it is stored.
abbrev pub answer_to : Asked → List ℕ → Result ToldText Refused
answer_to a bytes =
    let digest = digest_for a.ask bytes in
    if is_decoded_damage a then decoded_damage (method_of bytes) digest bytes
    else if is_of_whole a then whole_by (method_for a.decode bytes) a.ask bytes
    else answer_with a.ask digest (bytes_for a.decode bytes)

-- nothing is shown for this reason, which is the answer, unless memory ran out
abbrev pub GivesNone : Refused → Result ToldText Refused → Type 0
GivesNone (fault f) answer = answer ≡ Err (fault f)
GivesNone (document path f) answer = answer ≡ Err (document path f)
GivesNone input answer = ⊥
GivesNone (output f) answer = ⊥
GivesNone memory answer = Unit {0}

-- what is returned is the answer, unless memory ran out
abbrev pub Gives : Result Shown Refusal → Result ToldText Refused → Type 0
Gives (Ok shown) answer = answer ≡ Ok (told_in shown)
Gives (Err r) answer = GivesNone (refused_of r) answer
