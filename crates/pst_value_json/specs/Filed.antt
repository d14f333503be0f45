-- Which values of properties have files of their own, beside the document of what has them ([MS-PST] 2.4.5, 2.4.6).
use Rattle.std.specs.Prelude.{ℕ, ◌&&◌, nat_eq, Option, Some, None, option_map, List, ◌++◌, codes, if◌then◌else◌}
use Rattle.pst_value_json.specs.declared.filed.Filed.{Filed}
use Rattle.pst_value_json.specs.declared.filed.Filed.TheVariants.{Nothing, Message, Attachment}
use Rattle.pst_value_json.specs.declared.filed.TheConstants.{HEADERS, BODY, HTML, RTF, CONTENT, TEXT, BINARY}
use Rattle.pst_text.specs.Names.{nid_text}

-- The file of a message that has the value of a property with this identifier and this type: its headers and its bodies.
unfoldable pub message_file : ℕ → ℕ → Option (List ℕ)
message_file id kind =
    if nat_eq id HEADERS && nat_eq kind TEXT then Some (codes "headers.txt")
    else (if nat_eq id BODY && nat_eq kind TEXT then Some (codes "body.txt")
    else (if nat_eq id HTML && nat_eq kind TEXT then Some (codes "body.html")
    else (if nat_eq id HTML && nat_eq kind BINARY then Some (codes "body.html")
    else (if nat_eq id RTF && nat_eq kind BINARY then Some (codes "body.rtf.lzfu")
    else None))))

-- the file of an attachment: its content
unfoldable pub attachment_file : ℕ → ℕ → Option (List ℕ)
attachment_file id kind = if nat_eq id CONTENT && nat_eq kind BINARY then Some (codes "data") else None

-- a file in a folder that is called as a node, where one is named
abbrev pub in_folder : Option ℕ → List ℕ → List ℕ
in_folder None name = name
in_folder (Some nid) name = nid_text nid ++ codes "/" ++ name

-- the file that a document tells in place of the value, where it tells one
abbrev pub file_told : Filed → ℕ → ℕ → Option (List ℕ)
file_told Nothing id kind = None
file_told Message id kind = message_file id kind
file_told (Attachment folder) id kind = option_map (in_folder folder) (attachment_file id kind)
