-- The files of a message and of an attachment.
use Rattle.std.specs.Prelude.{ℕ, true, false, Option, Some, None, List, [], ◌∷◌, ◌++◌, codes}
use Rattle.std.specs.Prelude.{flat_map}
use Rattle.pst_block.specs.Table.{Table}
use Rattle.pst_btree.specs.Entries.{first_with}
use Rattle.pst_ndb.specs.Roots.{Roots}
use Rattle.pst_value_json.specs.declared.filed.Filed.TheVariants.{Attachment}
use Rattle.pst_value_json.specs.declared.filed.TheConstants.{HEADERS, BODY, HTML, RTF, CONTENT}
use Rattle.pst_value_json.specs.Filed.{message_file, attachment_file}
use Rattle.pst_value_json.specs.pst_text.Line.{data_line}
use Rattle.pst_value_json.specs.pst_names.Name.{NameParts}
use Rattle.pst_value_json.specs.pst_pc.Values.{Property, id_of, props_of}
use Rattle.pst_json.specs.Node.{message_data, attachment_data}
use Rattle.pst_json.specs.Path.{Place, message, attachment, other}
use Rattle.pst_json.specs.Property.{written_of}
use Rattle.pst_tar.specs.Archive.{Member}
use Rattle.pst_export.specs.Held.{HeldPlace}

-- a file in a folder
abbrev pub path_of : List ℕ → List ℕ → List ℕ
path_of folder name = folder ++ codes "/" ++ name

abbrev pub member_in : List ℕ → ℕ → List ℕ → List ℕ → Member
member_in folder time name bytes = record { name = path_of folder name; time = time; bytes = bytes }

-- the file that has the value of a property, where one has: the bytes of the value, or of a text its UTF-8
abbrev pub named_file : List ℕ → ℕ → Property → Option (List ℕ) → List Member
named_file folder time p None = []
named_file folder time p (Some name) = member_in folder time name (written_of true p) ∷ []

abbrev pub value_file : (ℕ → ℕ → Option (List ℕ)) → List ℕ → ℕ → Option Property → List Member
value_file file folder time None = []
value_file file folder time (Some p) = named_file folder time p (file p.id p.kind)

-- of the property with an identifier, where it is there
unfoldable pub file_at : (ℕ → ℕ → Option (List ℕ)) → Table → Roots → List ℕ → ℕ → ℕ → List Member
file_at file t r folder time id = value_file file folder time (first_with id_of id (props_of t r))

-- of properties with identifiers, in this order
abbrev pub files_at : (ℕ → ℕ → Option (List ℕ)) → Table → Roots → List ℕ → ℕ → List ℕ → List Member
files_at file t r folder time ids = flat_map (file_at file t r folder time) ids

-- the document, and what it has in files: of a message its headers and bodies, of an attachment its content
unfoldable pub place_files : (ℕ → Option NameParts) → Table → ℕ → List ℕ → Place → List Member
place_files names t time folder (message nid r) =
    member_in folder time (codes "props.json") (data_line (message_data names true false t r nid))
    ∷ files_at message_file t r folder time (HEADERS ∷ BODY ∷ HTML ∷ RTF ∷ [])
place_files names t time folder (attachment nid r) =
    member_in folder time (codes "props.json") (data_line (attachment_data names (Attachment None) false t (record { nid = nid; roots = Some r })))
    ∷ file_at attachment_file t r folder time CONTENT
place_files names t time folder (other nid r) = []

abbrev pub held_files : (ℕ → Option NameParts) → Table → ℕ → HeldPlace → List Member
held_files names t time held = place_files names t time held.folder held.place
