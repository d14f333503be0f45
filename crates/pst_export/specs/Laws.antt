-- What whoever extracts an archive may rest on.
use Rattle.std.specs.Prelude.{◌≡◌, ◌≢◌, ◌<◌, ◌^◌, ℕ, length, Bool, ◌&&◌, ◌||◌, not, true, false, nat_eq, nat_le, Option, Some, None, List, [], ◌∷◌, map, codes}
use Rattle.std.specs.List.{All, AllPairs, Contains, list_all}
use Rattle.pst_encoding.specs.declared.method.Method.{Method}
use Rattle.pst_encoding.specs.Tables.{IsByte}
use Rattle.pst_plain.specs.Twin.{method_of, twin_of}
use Rattle.pst_page.specs.declared.entry.NodeEntry.{NodeEntry}
use Rattle.pst_block.specs.Table.{Table}
use Rattle.pst_btree.specs.Entries.{first_with, node_key}
use Rattle.pst_btree.specs.Order.{Rises}
use Rattle.pst_ndb.specs.Roots.{Roots}
use Rattle.pst_remains.specs.Decoded.{decoded_remains_of}
use Rattle.pst_remains.specs.Remains.{RemainsParts, remains_of}
use Rattle.pst_store.specs.Grammar.{IsStore}
use Rattle.pst_store.specs.Parts.{StoreParts, parts_entries, parts_table}
use Rattle.pst_intact.specs.Fault.{intact_fault}
use Rattle.pst_whole.specs.Nodes.{whole_nodes}
use Rattle.pst_value_json.specs.declared.filed.TheConstants.{HEADERS, BODY, HTML, RTF, CONTENT}
use Rattle.pst_value_json.specs.pst_text.Text.{utf8_of}
use Rattle.pst_value_json.specs.pst_names.Name.{NameParts}
use Rattle.pst_value_json.specs.pst_pc.Values.{Property, id_of, props_of}
use Rattle.pst_json.specs.pst_whole.Lost.{LostParts}
use Rattle.pst_json.specs.Path.{message, attachment}
use Rattle.pst_tar.specs.Archive.{Member}
use Rattle.pst_tar.specs.Laws.{IsStorable}
use Rattle.pst_tar.specs.Read.{read_archive}
use Rattle.pst_export.specs.Files.{member_in, path_of, place_files}
use Rattle.pst_export.specs.Store.{all_files, archive_text}
use Rattle.pst_export.specs.Written.{HasSize}

-- ---- the names of files

-- a digit, a small letter, a dot or a slash
abbrev pub is_letter : ℕ → Bool
is_letter c = (nat_le 48 c && nat_le c 57) || ((nat_le 97 c && nat_le c 122) || (nat_eq c 46 || nat_eq c 47))

-- somewhere two dots stand one behind the other
abbrev pub has_dots : List ℕ → Bool
has_dots [] = false
has_dots (a ∷ []) = false
has_dots (a ∷ b ∷ rest) = (nat_eq a 46 && nat_eq b 46) || has_dots (b ∷ rest)

-- it is not empty, and does not begin with a slash
abbrev pub is_relative : List ℕ → Bool
is_relative [] = false
is_relative (c ∷ rest) = not (nat_eq c 47)

pub record IsSafe (name : List ℕ) : Type 0 where
  pub letters : list_all is_letter name ≡ true
  pub relative : is_relative name ≡ true
  pub dots : has_dots name ≡ false

abbrev pub IsSafelyNamed : Member → Type 0
IsSafelyNamed m = IsSafe m.name

-- Each name has these letters alone, does not begin with a slash, and has no two dots one behind the other: whatever the texts of the
-- store are, no file leads out of the folder in which it is made.
abbrev pub SafeLaw : Type 0
SafeLaw = (damage : Option (List ℕ)) (t : Table) (nodes : List NodeEntry) (lost : LostParts) → All IsSafelyNamed (all_files damage t nodes lost)

-- ---- files beside one another

-- a name is that of a folder in which another lies
abbrev pub IsFolderOf : List ℕ → List ℕ → Type 0
IsFolderOf folder name = (rest : List ℕ) × (name ≡ path_of folder rest)

-- two files have two names, and neither is the folder of the other
pub record IsBeside (a b : Member) : Type 0 where
  pub names : a.name ≢ b.name
  pub inside : IsFolderOf a.name b.name → ⊥
  pub around : IsFolderOf b.name a.name → ⊥

-- What is known of intact nodes of a file: its bytes are bytes; the identifiers of the nodes are numbers of 32 bits, and rise; and no
-- node has a fault.
pub record AreIntact (t : Table) (nodes : List NodeEntry) : Type 0 where
  pub bytes : All IsByte t.image
  pub nids : All (λ (e : NodeEntry). e.nid < 2 ^ 32) nodes
  pub rise : Rises 0 None (map node_key nodes)
  pub sound : intact_fault t nodes ≡ None

-- The names of all files are distinct, and none is the folder of another: whoever extracts them writes none over another. What stands
-- in an archive before a file that has a long name is no file, and not among them.
abbrev pub BesideLaw : Type 0
BesideLaw = (damage : Option (List ℕ)) (t : Table) (nodes : List NodeEntry) (lost : LostParts) → AreIntact t nodes → AllPairs IsBeside (all_files damage t nodes lost)

-- Such are the nodes of each store, also of one that is encoded, its blocks decoded.
abbrev pub StoreIntactLaw : Type 0
StoreIntactLaw = (I : List ℕ) (s : StoreParts) → All IsByte I → IsStore I s → AreIntact (parts_table I s) (parts_entries I s)

abbrev pub DecodedIntactLaw : Type 0
DecodedIntactLaw = (I : List ℕ) (method : Method) (s : StoreParts) → All IsByte I → method_of I ≡ Some method → IsStore (twin_of I) s →
    AreIntact (parts_table (twin_of I) s) (parts_entries (twin_of I) s)

-- And such are those nodes that are whole of what remains of a file, whatever its bytes are.
abbrev pub IsWholeIntact : RemainsParts → Type 0
IsWholeIntact r = AreIntact r.table (whole_nodes r.table r.nodes r.broken)

abbrev pub WholeIntactLaw : Type 0
WholeIntactLaw = (I : List ℕ) → All IsByte I → IsWholeIntact (remains_of I)

abbrev pub DecodedWholeIntactLaw : Type 0
DecodedWholeIntactLaw = (I : List ℕ) (method : Method) → All IsByte I → method_of I ≡ Some method → IsWholeIntact (decoded_remains_of method I)

-- ---- an archive, read

-- What tar can say of a file it can say of each that has a size, whatever the store is: its name has no zero and is short, and its
-- time has eleven octal digits.
abbrev pub StorableLaw : Type 0
StorableLaw = (damage : Option (List ℕ)) (t : Table) (nodes : List NodeEntry) (lost : LostParts) → All HasSize (all_files damage t nodes lost) →
    All IsStorable (all_files damage t nodes lost)

-- So an archive, read by the rules of tar, gives exactly its files, in order, where each has a size and they can be counted.
abbrev pub ReadBackLaw : Type 0
ReadBackLaw = (damage : Option (List ℕ)) (t : Table) (nodes : List NodeEntry) (lost : LostParts) → All HasSize (all_files damage t nodes lost) →
    length (all_files damage t nodes lost) < 2 ^ 64 → read_archive (archive_text damage t nodes lost) ≡ Some (all_files damage t nodes lost)

-- ---- the bytes of files

-- the types of texts of 16-bit units and of bytes (PtypString, PtypBinary; [MS-OXCDATA] 2.11.1)
abbrev pub text_type : ℕ
text_type = 0x001F

abbrev pub binary_type : ℕ
binary_type = 0x0102

-- a property with this identifier and this type is there
abbrev pub IsThere : Table → Roots → ℕ → ℕ → Property → Type 0
IsThere t r id kind p = (first_with id_of id (props_of t r) ≡ Some p) × (p.kind ≡ kind)

-- among these files is one of this name in a folder, which has these bytes
abbrev pub HasFile : List Member → List ℕ → ℕ → List ℕ → List ℕ → Type 0
HasFile files folder time name bytes = Contains files (member_in folder time name bytes)

-- The headers of a message and its bodies: texts as UTF-8, all else as the value has it.
pub record AreBodies (files : List Member) (folder : List ℕ) (time : ℕ) (t : Table) (r : Roots) : Type 0 where
  pub headers : (p : Property) → IsThere t r HEADERS text_type p → HasFile files folder time (codes "headers.txt") (utf8_of p.bytes)
  pub text : (p : Property) → IsThere t r BODY text_type p → HasFile files folder time (codes "body.txt") (utf8_of p.bytes)
  pub html : (p : Property) → IsThere t r HTML binary_type p → HasFile files folder time (codes "body.html") p.bytes
  pub html_text : (p : Property) → IsThere t r HTML text_type p → HasFile files folder time (codes "body.html") (utf8_of p.bytes)
  pub rtf : (p : Property) → IsThere t r RTF binary_type p → HasFile files folder time (codes "body.rtf.lzfu") p.bytes

abbrev pub BodiesLaw : Type 0
BodiesLaw = (names : ℕ → Option NameParts) (t : Table) (time : ℕ) (folder : List ℕ) (nid : ℕ) (r : Roots) →
    AreBodies (place_files names t time folder (message nid r)) folder time t r

-- The content of an attachment, as the value has it.
abbrev pub ContentLaw : Type 0
ContentLaw = (names : ℕ → Option NameParts) (t : Table) (time : ℕ) (folder : List ℕ) (nid : ℕ) (r : Roots) (p : Property) → IsThere t r CONTENT binary_type p →
    HasFile (place_files names t time folder (attachment nid r)) folder time (codes "data") p.bytes
