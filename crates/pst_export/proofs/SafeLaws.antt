-- The name of each file of an archive is safe.
use Rattle.std.proofs.Common.{◌≡◌, ℕ, zero, suc, Bool, true, false, List, [], ◌∷◌, ◌++◌, map, refl}
use Rattle.std.specs.Prelude.{◌&&◌, nat_eq, Option, Some, None, IfSome, Result, Ok, Err, if◌then◌else◌, option_map, codes}
use Rattle.std.specs.List.{All}
use Rattle.std.proofs.lemmas.List.Elements.{All-append, All-cons, All-nil}
use Rattle.pst_page.specs.declared.entry.NodeEntry.{NodeEntry}
use Rattle.pst_block.specs.Table.{Table}
use Rattle.pst_btree.specs.Entries.{first_with}
use Rattle.pst_ndb.specs.Roots.{Roots, all_roots}
use Rattle.pst_value_json.specs.declared.filed.TheConstants.{HEADERS, BODY, HTML, RTF, CONTENT}
use Rattle.pst_value_json.specs.Filed.{message_file, attachment_file}
use Rattle.pst_value_json.specs.pst_names.Name.{NameParts, store_name}
use Rattle.pst_value_json.specs.pst_pc.Values.{Property, id_of, props_of}
use Rattle.pst_json.specs.pst_props.declared.fault.DocFault.{DocFault}
use Rattle.pst_json.specs.pst_whole.Lost.{LostParts}
use Rattle.pst_json.specs.Folders.{folders_line}
use Rattle.pst_json.specs.Messages.{messages_text}
use Rattle.pst_json.specs.Node.{props_line}
use Rattle.pst_tar.specs.Archive.{Member}
use Rattle.pst_json.specs.Path.{Place, message, attachment, other}
use Rattle.pst_verify.specs.pst_msg.pst_mail.declared.nid.TheConstants.{STORE, MESSAGE, ASSOCIATED}
use Rattle.pst_verify.specs.pst_msg.Shown.{Shown, row_shown, object_shown, attachment_rows}
use Rattle.pst_verify.specs.pst_msg.Values.{embedded_of, is_folder}
use Rattle.pst_verify.specs.pst_store.Kind.{of_kind}
use Rattle.pst_export.specs.declared.walk.TheConstants.{LEVELS}
use Rattle.pst_export.specs.Files.{file_at, files_at, held_files, place_files, value_file}
use Rattle.pst_export.specs.Held.{HeldPlace, attachment_held, embedded_held, folder_in, held_in_folder, told_where_there, message_held, nested_held, row_held}
use Rattle.pst_export.specs.Laws.{IsSafe, IsSafelyNamed, SafeLaw, binary_type, text_type}
use Rattle.pst_export.specs.Store.{all_files, damage_file, member_named, files_with, folder_file, folder_files, front_files, message_files, messages_files, of_type, store_file}
use Rattle.pst_export.specs.Time.{time_of}
use Rattle.pst_export.proofs.NameLaws.{all_flat, all_flat_of, all_mapped, node_safe, safe_joined}

-- ---- the words of the program

-- what holds of each of them holds of the one that is taken
by_test : (P : List ℕ → Type 0) (b : Bool) (x y : Option (List ℕ)) → IfSome x P → IfSome y P → IfSome (if b then x else y) P
by_test P true x y first second = first
by_test P false x y first second = second

abbrev nothing : Option (List ℕ)
nothing = None

pub message_words : (P : List ℕ → Type 0) → P (codes "headers.txt") → P (codes "body.txt") → P (codes "body.html") → P (codes "body.rtf.lzfu") → (id kind : ℕ) → IfSome (message_file id kind) P
unfolding message_file
message_words P headers_word body_word html_word rtf_word id kind =
    let rtf : Option (List ℕ) = if nat_eq id RTF && nat_eq kind binary_type then Some (codes "body.rtf.lzfu") else nothing in
    let html : Option (List ℕ) = if nat_eq id HTML && nat_eq kind binary_type then Some (codes "body.html") else rtf in
    let text : Option (List ℕ) = if nat_eq id HTML && nat_eq kind text_type then Some (codes "body.html") else html in
    let body : Option (List ℕ) = if nat_eq id BODY && nat_eq kind text_type then Some (codes "body.txt") else text in
    by_test P (nat_eq id HEADERS && nat_eq kind text_type) (Some (codes "headers.txt")) body headers_word
    (by_test P (nat_eq id BODY && nat_eq kind text_type) (Some (codes "body.txt")) text body_word
    (by_test P (nat_eq id HTML && nat_eq kind text_type) (Some (codes "body.html")) html html_word
    (by_test P (nat_eq id HTML && nat_eq kind binary_type) (Some (codes "body.html")) rtf html_word
    (by_test P (nat_eq id RTF && nat_eq kind binary_type) (Some (codes "body.rtf.lzfu")) nothing rtf_word tt))))

pub attachment_words : (P : List ℕ → Type 0) → P (codes "data") → (id kind : ℕ) → IfSome (attachment_file id kind) P
unfolding attachment_file
attachment_words P data_word id kind = by_test P (nat_eq id CONTENT && nat_eq kind binary_type) (Some (codes "data")) nothing data_word tt

safe_message_words : (id kind : ℕ) → IfSome (message_file id kind) IsSafe
safe_message_words =
    message_words IsSafe (record { letters = refl; relative = refl; dots = refl }) (record { letters = refl; relative = refl; dots = refl })
    (record { letters = refl; relative = refl; dots = refl }) (record { letters = refl; relative = refl; dots = refl })

safe_attachment_words : (id kind : ℕ) → IfSome (attachment_file id kind) IsSafe
safe_attachment_words = attachment_words IsSafe (record { letters = refl; relative = refl; dots = refl })

props_word : IsSafe (codes "props.json")
props_word = record { letters = refl; relative = refl; dots = refl }

-- ---- the files of a message and of an attachment

named_safe : (file : ℕ → ℕ → Option (List ℕ)) (folder : List ℕ) (time : ℕ) (p : Property) → IsSafe folder → IfSome (file p.id p.kind) IsSafe
    → All IsSafelyNamed (value_file file folder time (Some p))
named_safe file folder time p in_folder words = by_name (file p.id p.kind) refl words
  where
    by_name : (name : Option (List ℕ)) → file p.id p.kind ≡ name → IfSome name IsSafe → All IsSafelyNamed (value_file file folder time (Some p))
    by_name None e is = rw e (All-nil IsSafelyNamed)
    by_name (Some name) e is = rw e (All-cons IsSafelyNamed _ [] (safe_joined folder name in_folder is) (All-nil IsSafelyNamed))

value_safe : (file : ℕ → ℕ → Option (List ℕ)) (folder : List ℕ) (time : ℕ) (o : Option Property) → IsSafe folder → ((id kind : ℕ) → IfSome (file id kind) IsSafe)
    → All IsSafelyNamed (value_file file folder time o)
value_safe file folder time None in_folder words = All-nil IsSafelyNamed
value_safe file folder time (Some p) in_folder words = named_safe file folder time p in_folder (words p.id p.kind)

file_safe : (file : ℕ → ℕ → Option (List ℕ)) (t : Table) (r : Roots) (folder : List ℕ) (time id : ℕ) → IsSafe folder → ((id kind : ℕ) → IfSome (file id kind) IsSafe)
    → All IsSafelyNamed (file_at file t r folder time id)
unfolding file_at
file_safe file t r folder time id in_folder words = value_safe file folder time (first_with id_of id (props_of t r)) in_folder words

place_safe : (names : ℕ → Option NameParts) (t : Table) (time : ℕ) (folder : List ℕ) (place : Place) → IsSafe folder → All IsSafelyNamed (place_files names t time folder place)
unfolding place_files
place_safe names t time folder (message nid r) is =
    All-cons IsSafelyNamed _ (files_at message_file t r folder time (HEADERS ∷ BODY ∷ HTML ∷ RTF ∷ [])) (safe_joined folder (codes "props.json") is props_word)
    (all_flat IsSafelyNamed (file_at message_file t r folder time) (λ id. file_safe message_file t r folder time id is safe_message_words) (HEADERS ∷ BODY ∷ HTML ∷ RTF ∷ []))
place_safe names t time folder (attachment nid r) is =
    All-cons IsSafelyNamed _ (file_at attachment_file t r folder time CONTENT) (safe_joined folder (codes "props.json") is props_word)
    (file_safe attachment_file t r folder time CONTENT is safe_attachment_words)
place_safe names t time folder (other nid r) is = All-nil IsSafelyNamed

-- ---- what has a folder of its own

abbrev pub HasSafe : HeldPlace → Type 0
HasSafe h = IsSafe h.folder

embedded_safe : (inner : List ℕ → Shown → List HeldPlace) → ((folder : List ℕ) (s : Shown) → IsSafe folder → All HasSafe (inner folder s)) → (folder : List ℕ) (o : Option Shown) → IsSafe folder
    → All HasSafe (embedded_held inner folder o)
embedded_safe inner each folder None is = All-nil HasSafe
embedded_safe inner each folder (Some s) is = each (folder_in folder s.nid) s (node_safe folder s.nid is)

row_safe : (t : Table) (inner : List ℕ → Shown → List HeldPlace) → ((folder : List ℕ) (s : Shown) → IsSafe folder → All HasSafe (inner folder s)) → (folder : List ℕ) → IsSafe folder → (s : Shown)
    → All HasSafe (row_held t inner folder s)
unfolding row_held
row_safe t inner each folder is s = by_roots s.roots
  where
    in_row : IsSafe (folder_in folder s.nid)
    in_row = node_safe folder s.nid is

    by_roots : (o : Option Roots) → All HasSafe (told_where_there (attachment_held t inner (folder_in folder s.nid) s.nid) o)
    by_roots None = All-nil HasSafe
    by_roots (Some r) =
        All-cons HasSafe _ _ in_row (embedded_safe inner each (folder_in folder s.nid) (option_map (object_shown t r) (embedded_of t r)) in_row)

message_safe : (t : Table) (inner : List ℕ → Shown → List HeldPlace) → ((folder : List ℕ) (s : Shown) → IsSafe folder → All HasSafe (inner folder s)) → (folder : List ℕ) (nid : ℕ) (r : Roots) → IsSafe folder
    → All HasSafe (message_held t inner folder nid r)
unfolding message_held
message_safe t inner each folder nid r is =
    All-cons HasSafe _ _ is (all_flat HasSafe (row_held t inner folder) (row_safe t inner each folder is) (map (row_shown t r) (attachment_rows t r)))

there_safe : (t : Table) (inner : List ℕ → Shown → List HeldPlace) → ((folder : List ℕ) (s : Shown) → IsSafe folder → All HasSafe (inner folder s)) → (folder : List ℕ) (nid : ℕ) (o : Option Roots) → IsSafe folder
    → All HasSafe (told_where_there (message_held t inner folder nid) o)
there_safe t inner each folder nid None is = All-nil HasSafe
there_safe t inner each folder nid (Some r) is = message_safe t inner each folder nid r is

nested_safe : (t : Table) (n : ℕ) (folder : List ℕ) (s : Shown) → IsSafe folder → All HasSafe (nested_held t n folder s)
unfolding nested_held
nested_safe t zero folder s is = All-nil HasSafe
nested_safe t (suc n) folder s is = there_safe t (nested_held t n) (λ f x safe. nested_safe t n f x safe) folder s.nid s.roots is

held_safe : (t : Table) (name : List ℕ) (r : Roots) → IsSafe name → All HasSafe (held_in_folder t name r)
unfolding held_in_folder
held_safe t name r is = message_safe t (nested_held t LEVELS) (nested_safe t LEVELS) (folder_in name r.top) r.top r (node_safe name r.top is)

-- ---- all files

messages_safe : (names : ℕ → Option NameParts) (t : Table) (name : List ℕ) (rs : List Roots) → IsSafe name → All IsSafelyNamed (messages_files names t name rs)
unfolding message_files
messages_safe names t name rs is =
    all_flat IsSafelyNamed (message_files names t name) (λ r. all_flat_of HasSafe IsSafelyNamed (held_files names t (time_of t r))
    (λ held safe. place_safe names t (time_of t r) held.folder held.place safe) (held_in_folder t name r) (held_safe t name r is)) rs

folders_safe : (names : ℕ → Option NameParts) (t : Table) (rs : List Roots) → All IsSafelyNamed (folder_files names t rs)
unfolding folder_file
folders_safe names t rs =
    all_mapped IsSafelyNamed (folder_file names t)
    (λ r. safe_joined (folder_in (codes "folders") r.top) (codes "props.json") (node_safe (codes "folders") r.top (record { letters = refl; relative = refl; dots = refl })) props_word) rs

damage_safe : (o : Option (List ℕ)) → All IsSafelyNamed (damage_file o)
damage_safe None = All-nil IsSafelyNamed
damage_safe (Some text) = All-cons IsSafelyNamed _ [] (record { letters = refl; relative = refl; dots = refl }) (All-nil IsSafelyNamed)

store_safe : (o : Result (List ℕ) DocFault) → All IsSafelyNamed (store_file o)
store_safe (Ok line) = All-cons IsSafelyNamed _ [] (record { letters = refl; relative = refl; dots = refl }) (All-nil IsSafelyNamed)
store_safe (Err f) = All-nil IsSafelyNamed

front_safe : (t : Table) (nodes : List NodeEntry) (lost : LostParts) → All IsSafelyNamed (front_files t nodes lost)
front_safe t nodes lost =
    let store : List Member = store_file (props_line false t nodes (STORE ∷ [])) in
    let list : Member = member_named (codes "folders.json") (folders_line t nodes lost) in
    let summaries : Member = member_named (codes "messages.jsonl") (messages_text t nodes) in
    let first : IsSafelyNamed list = record { letters = refl; relative = refl; dots = refl } in
    let second : IsSafelyNamed summaries = record { letters = refl; relative = refl; dots = refl } in
    All-append IsSafelyNamed store (list ∷ summaries ∷ []) (store_safe (props_line false t nodes (STORE ∷ [])))
    (All-cons IsSafelyNamed list (summaries ∷ []) first (All-cons IsSafelyNamed summaries [] second (All-nil IsSafelyNamed)))

pub safe_law : SafeLaw
unfolding all_files
safe_law damage t nodes lost =
    let names = store_name t nodes in
    let front = front_files t nodes lost in
    let folders = folder_files names t (of_kind is_folder (all_roots nodes)) in
    let messages = messages_files names t (codes "messages") (of_type MESSAGE nodes) in
    let associated = messages_files names t (codes "associated") (of_type ASSOCIATED nodes) in
    All-append IsSafelyNamed (damage_file damage) (files_with names t nodes lost) (damage_safe damage)
    (All-append IsSafelyNamed ((front ++ folders) ++ messages) associated
    (All-append IsSafelyNamed (front ++ folders) messages
    (All-append IsSafelyNamed front folders (front_safe t nodes lost) (folders_safe names t (of_kind is_folder (all_roots nodes))))
    (messages_safe names t (codes "messages") (of_type MESSAGE nodes) (record { letters = refl; relative = refl; dots = refl })))
    (messages_safe names t (codes "associated") (of_type ASSOCIATED nodes) (record { letters = refl; relative = refl; dots = refl })))
