-- The files of a message, and of all that it holds, lie beside one another.
use Rattle.std.proofs.Common.{◌≡◌, ◌<◌, ◌^◌, ℕ, zero, suc, true, false, List, [], ◌∷◌, ◌++◌, map, AllPairs, refl, sym, ap, subst, ◌∙◌, append-nil}
use Rattle.std.specs.Prelude.{Option, Some, None, option_map, codes, flat_map}
use Rattle.std.specs.List.{All, Contains}
use Rattle.std.proofs.lemmas.Grind.{flat_map-append}
use Rattle.std.proofs.lemmas.List.Elements.{All-cons, All-contains_itself, All-map, All-nil, All-weaker}
use Rattle.pst_encoding.specs.Tables.{IsByte}
use Rattle.pst_block.specs.Table.{Table}
use Rattle.pst_ndb.specs.Roots.{Roots, subnode_of}
use Rattle.pst_plain.proofs.HeadLemmas.{num_fits}
use Rattle.pst_tc.specs.Values.{RowParts, row_id_of, row_parts_at, tc_records, tc_rows, tc_sizes}
use Rattle.pst_tc.proofs.TcLaws.{rise_of_rows, tc_law}
use Rattle.pst_bth.specs.Rows.{row_key}
use Rattle.pst_bth.specs.Values.{bth_records, record_at}
use Rattle.pst_msg.specs.pst_mail.declared.object.Object.{Object}
use Rattle.pst_msg.specs.Grammar.{HasSubnode, IsAttachment, IsMessage, MayHaveTable}
use Rattle.pst_msg.specs.Shown.{Shown, attachment_rows, object_shown, row_shown, rows_there}
use Rattle.pst_msg.specs.Values.{embedded_of}
use Rattle.pst_msg.proofs.MessageLaws.{attachment_facts, message_facts}
use Rattle.pst_value_json.specs.declared.filed.Filed.TheVariants.{Attachment}
use Rattle.pst_value_json.specs.declared.filed.TheConstants.{HEADERS, BODY, HTML, RTF, CONTENT}
use Rattle.pst_value_json.specs.Filed.{message_file, attachment_file}
use Rattle.pst_value_json.specs.pst_text.Line.{data_line}
use Rattle.pst_value_json.specs.pst_names.Name.{NameParts}
use Rattle.pst_json.specs.Node.{message_data, attachment_data}
use Rattle.pst_json.specs.Path.{message, attachment}
use Rattle.pst_tar.specs.Archive.{Member}
use Rattle.pst_export.specs.Files.{file_at, held_files, member_in, place_files}
use Rattle.pst_export.specs.Held.{HeldPlace, attachment_held, embedded_held, folder_in, told_where_there, message_held, nested_held, row_held, rows_held}
use Rattle.pst_export.specs.Laws.{IsBeside}
use Rattle.pst_export.proofs.BesideLemmas.{AreFine, IsFit, IsIn, Slot, pairs_nil, pairs_one, slot_files, slot_of}
use Rattle.pst_export.proofs.SlotLemmas.{OtherTexts, body_called, data_called, file_fit, folder_fine, headers_called, html_called, one_fit, rising_others, rtf_called}

-- ---- identifiers of rows are numbers of 32 bits

ids_small : (t : Table) (r : Roots) → All IsByte t.image → All (λ (x : RowParts). x.id < 2 ^ 32) (tc_rows t r)
unfolding tc_rows tc_records bth_records row_key
ids_small t r bytes =
    All-map (λ (x : RowParts). x.id < 2 ^ 32) (row_parts_at t r) _
    (All-map (λ y. y.0 < 2 ^ 32) (record_at t.image tc_sizes) _ (λ k d within. num_fits t.image _ bytes))

-- ---- the attachments of a message: the rows of a table of it, where that is there

-- their identifiers have other texts
rows_others : (t : Table) (r : Roots) (nid : ℕ) → All IsByte t.image → MayHaveTable t r nid → AllPairs (OtherTexts row_id_of) (rows_there t (subnode_of t r nid))
rows_others t r nid bytes tables = by_table (subnode_of t r nid) refl
  where
    by_table : (o : Option Roots) → subnode_of t r nid ≡ o → AllPairs (OtherTexts row_id_of) (rows_there t o)
    by_table None is = pairs_nil (OtherTexts row_id_of)
    by_table (Some table) is = rising_others row_id_of 0 (tc_rows t table) (rise_of_rows t table ((tc_law t table).0 (tables table is))) (ids_small t table bytes)

-- each of them is an attachment
abbrev IsAttachmentAt : Table → Roots → RowParts → Type 0
IsAttachmentAt t r x = (s : Roots) × (subnode_of t r x.id ≡ Some s) × IsAttachment t s

abbrev IsRowOf : Table → Roots → ℕ → RowParts → Type 0
IsRowOf t r nid x = (table : Roots) × (subnode_of t r nid ≡ Some table) × Contains (tc_rows t table) x

rows_named : (t : Table) (r : Roots) (nid : ℕ) → ((x : RowParts) → IsRowOf t r nid x → HasSubnode t r x.id) → ((x : RowParts) (s : Roots) → IsRowOf t r nid x → subnode_of t r x.id ≡ Some s → IsAttachment t s)
    → All (IsAttachmentAt t r) (rows_there t (subnode_of t r nid))
rows_named t r nid named each = by_table (subnode_of t r nid) refl
  where
    by_table : (o : Option Roots) → subnode_of t r nid ≡ o → All (IsAttachmentAt t r) (rows_there t o)
    by_table None is = All-nil (IsAttachmentAt t r)
    by_table (Some table) is =
        All-weaker (Contains (tc_rows t table)) (IsAttachmentAt t r)
        (λ x within. let row : IsRowOf t r nid x = (table, is, within) in let there = named x row in (there.0, there.1, each x there.0 row there.1))
        (tc_rows t table) (All-contains_itself (tc_rows t table))

-- ---- the files of what has a folder of its own

flat_twice : {X Y Z : Type 0} (g : Y → List Z) (f : X → List Y) (xs : List X) → flat_map g (flat_map f xs) ≡ flat_map (λ x. flat_map g (f x)) xs
flat_twice g f [] = refl
flat_twice g f (x ∷ xs) = flat_map-append g (f x) (flat_map f xs) ∙ ap (λ l. flat_map g (f x) ++ l) (flat_twice g f xs)

flat_mapped : {X Y Z : Type 0} (g : Y → List Z) (f : X → Y) (xs : List X) → flat_map g (map f xs) ≡ flat_map (λ x. g (f x)) xs
flat_mapped g f [] = refl
flat_mapped g f (x ∷ xs) = ap (λ l. g (f x) ++ l) (flat_mapped g f xs)

module _ (names : ℕ → Option NameParts) (t : Table) (time : ℕ) (bytes : All IsByte t.image) where
  abbrev files_of : List HeldPlace → List Member
  files_of held = flat_map (held_files names t time) held

  -- The files of what is told of messages that are embedded lie beside one another, in the folder that it is told for.
  abbrev InnerFine : (List ℕ → Shown → List HeldPlace) → Type 0
  InnerFine inner = (folder : List ℕ) (nid : ℕ) (s : Roots) → IsMessage t s → AreFine folder (files_of (inner folder (record { nid = nid; roots = Some s })))

  abbrev document_slot : List ℕ → List ℕ → Slot
  document_slot folder line = slot_of (codes "props.json") (member_in folder time (codes "props.json") line ∷ [])

  document_fit : (folder line : List ℕ) → IsFit (folder ++ codes "/") (document_slot folder line)
  document_fit folder line = one_fit (folder ++ codes "/") (codes "props.json") (member_in folder time (codes "props.json") line) refl refl

  -- ---- an attachment

  abbrev attachment_line : ℕ → Roots → List ℕ
  attachment_line nid r = data_line (attachment_data names (Attachment None) false t (record { nid = nid; roots = Some r }))

  abbrev attachment_slots : List ℕ → ℕ → Roots → List Slot
  attachment_slots folder nid r =
      document_slot folder (attachment_line nid r) ∷ slot_of (codes "data") (file_at attachment_file t r folder time CONTENT) ∷ []

  attachment_fits : (folder : List ℕ) (nid : ℕ) (r : Roots) → All (IsFit (folder ++ codes "/")) (attachment_slots folder nid r)
  attachment_fits folder nid r =
      let P = IsFit (folder ++ codes "/") in
      let document = document_slot folder (attachment_line nid r) in
      let content = slot_of (codes "data") (file_at attachment_file t r folder time CONTENT) in
      All-cons P document (content ∷ []) (document_fit folder (attachment_line nid r))
      (All-cons P content [] (file_fit attachment_file t r folder time CONTENT (codes "data") refl data_called) (All-nil P))

  abbrev object_files : (List ℕ → Shown → List HeldPlace) → List ℕ → Shown → List Member
  object_files inner folder s = files_of (inner (folder_in folder s.nid) s)

  abbrev shown_nid : Shown → ℕ
  shown_nid s = s.nid

  -- the message that it embeds, if it does
  abbrev shown_list : Option Shown → List Shown
  shown_list None = []
  shown_list (Some s) = s ∷ []

  shown_files : (inner : List ℕ → Shown → List HeldPlace) (folder : List ℕ) (o : Option Shown) → flat_map (object_files inner folder) (shown_list o) ≡ files_of (embedded_held inner folder o)
  shown_files inner folder None = refl
  shown_files inner folder (Some s) = append-nil (files_of (inner (folder_in folder s.nid) s))

  shown_others : (o : Option Shown) → AllPairs (OtherTexts shown_nid) (shown_list o)
  shown_others None = pairs_nil (OtherTexts shown_nid)
  shown_others (Some s) = pairs_one (OtherTexts shown_nid) s

  abbrev ObjectFine : (List ℕ → Shown → List HeldPlace) → List ℕ → Shown → Type 0
  ObjectFine inner folder s = AreFine (folder_in folder s.nid) (object_files inner folder s)

  object_fine : (inner : List ℕ → Shown → List HeldPlace) → InnerFine inner → (folder : List ℕ) (r : Roots) → IsAttachment t r → (o : Option Object) → embedded_of t r ≡ o → All (ObjectFine inner folder) (shown_list (option_map (object_shown t r) o))
  object_fine inner each folder r at None is = All-nil (ObjectFine inner folder)
  object_fine inner each folder r at (Some o) is =
      let facts = attachment_facts t r at in
      let there = facts.names o is in
      let fine : ObjectFine inner folder (record { nid = o.nid; roots = Some there.0 }) = each (folder_in folder o.nid) o.nid there.0 (facts.each o there.0 is there.1) in
      All-cons (ObjectFine inner folder) (object_shown t r o) [] (subst (λ q. ObjectFine inner folder (record { nid = o.nid; roots = q })) (sym there.1) fine) (All-nil (ObjectFine inner folder))

  attachment_fine : (inner : List ℕ → Shown → List HeldPlace) → InnerFine inner → (folder : List ℕ) (nid : ℕ) (r : Roots) → IsAttachment t r → AreFine folder (files_of (attachment_held t inner folder nid r))
  unfolding place_files
  attachment_fine inner each folder nid r at =
      let o = option_map (object_shown t r) (embedded_of t r) in
      let fine = folder_fine folder (attachment_slots folder nid r) shown_nid (object_files inner folder) (shown_list o) (attachment_fits folder nid r) refl refl
      (object_fine inner each folder r at (embedded_of t r) refl) (shown_others o) in
      let own : flat_map slot_files (attachment_slots folder nid r) ≡ place_files names t time folder (attachment nid r) =
      ap (λ l. member_in folder time (codes "props.json") (attachment_line nid r) ∷ l) (append-nil (file_at attachment_file t r folder time CONTENT)) in
      subst (AreFine folder) (ap (λ l. l ++ flat_map (object_files inner folder) (shown_list o)) own ∙ ap (λ l. place_files names t time folder (attachment nid r) ++ l) (shown_files inner folder o)) fine

  -- ---- a message

  abbrev message_line : ℕ → Roots → List ℕ
  message_line nid r = data_line (message_data names true false t r nid)

  abbrev body_slot : List ℕ → Roots → ℕ → List ℕ → Slot
  body_slot folder r id word = slot_of word (file_at message_file t r folder time id)

  abbrev message_slots : List ℕ → ℕ → Roots → List Slot
  message_slots folder nid r =
      document_slot folder (message_line nid r) ∷ body_slot folder r HEADERS (codes "headers.txt") ∷ body_slot folder r BODY (codes "body.txt")
      ∷ body_slot folder r HTML (codes "body.html") ∷ body_slot folder r RTF (codes "body.rtf.lzfu") ∷ []

  message_fits : (folder : List ℕ) (nid : ℕ) (r : Roots) → All (IsFit (folder ++ codes "/")) (message_slots folder nid r)
  message_fits folder nid r =
      let P = IsFit (folder ++ codes "/") in
      let headers = body_slot folder r HEADERS (codes "headers.txt") in
      let text = body_slot folder r BODY (codes "body.txt") in
      let html = body_slot folder r HTML (codes "body.html") in
      let rtf = body_slot folder r RTF (codes "body.rtf.lzfu") in
      All-cons P (document_slot folder (message_line nid r)) (headers ∷ text ∷ html ∷ rtf ∷ []) (document_fit folder (message_line nid r))
      (All-cons P headers (text ∷ html ∷ rtf ∷ []) (file_fit message_file t r folder time HEADERS (codes "headers.txt") refl headers_called)
      (All-cons P text (html ∷ rtf ∷ []) (file_fit message_file t r folder time BODY (codes "body.txt") refl body_called)
      (All-cons P html (rtf ∷ []) (file_fit message_file t r folder time HTML (codes "body.html") refl html_called)
      (All-cons P rtf [] (file_fit message_file t r folder time RTF (codes "body.rtf.lzfu") refl rtf_called) (All-nil P)))))

  abbrev row_files : (List ℕ → Shown → List HeldPlace) → List ℕ → Roots → RowParts → List Member
  row_files inner folder r x = files_of (row_held t inner folder (row_shown t r x))

  abbrev RowFine : (List ℕ → Shown → List HeldPlace) → List ℕ → Roots → RowParts → Type 0
  RowFine inner folder r x = AreFine (folder_in folder x.id) (row_files inner folder r x)

  row_fine : (inner : List ℕ → Shown → List HeldPlace) → InnerFine inner → (folder : List ℕ) (r : Roots) (x : RowParts) → IsAttachmentAt t r x → RowFine inner folder r x
  unfolding row_held
  row_fine inner each folder r x at =
      let fine = attachment_fine inner each (folder_in folder x.id) x.id at.0 at.2 in
      subst (λ o. AreFine (folder_in folder x.id) (files_of (told_where_there (attachment_held t inner (folder_in folder x.id) x.id) o))) (sym at.1) fine

  rows_files : (inner : List ℕ → Shown → List HeldPlace) (folder : List ℕ) (r : Roots) (rows : List RowParts) → flat_map (row_files inner folder r) rows ≡ files_of (rows_held t inner folder (map (row_shown t r) rows))
  rows_files inner folder r rows =
      sym (flat_twice (held_files names t time) (λ x. row_held t inner folder (row_shown t r x)) rows)
      ∙ ap files_of (sym (flat_mapped (row_held t inner folder) (row_shown t r) rows))

  message_fine : (inner : List ℕ → Shown → List HeldPlace) → InnerFine inner → (folder : List ℕ) (nid : ℕ) (r : Roots) → IsMessage t r → AreFine folder (files_of (message_held t inner folder nid r))
  unfolding place_files message_held attachment_rows
  message_fine inner each folder nid r is =
      let held = (message_facts t r is).held in
      let rows = attachment_rows t r in
      let at : All (IsAttachmentAt t r) rows = rows_named t r _ (λ x row. (held.names x row).0) held.each in
      let fine = folder_fine folder (message_slots folder nid r) row_id_of (row_files inner folder r) rows (message_fits folder nid r) refl refl
      (All-weaker (IsAttachmentAt t r) (RowFine inner folder r) (row_fine inner each folder r) rows at) (rows_others t r _ bytes held.attachments) in
      subst (AreFine folder) (ap (λ l. place_files names t time folder (message nid r) ++ l) (rows_files inner folder r rows)) fine

  nested_fine : (n : ℕ) → InnerFine (nested_held t n)
  unfolding nested_held
  nested_fine zero folder nid s is = record { beside = pairs_nil IsBeside; inside = All-nil (IsIn folder) }
  nested_fine (suc n) folder nid s is = message_fine (nested_held t n) (nested_fine n) folder nid s is

  pub held_fine : (levels : ℕ) (folder : List ℕ) (nid : ℕ) (r : Roots) → IsMessage t r → AreFine folder (flat_map (held_files names t time) (message_held t (nested_held t levels) folder nid r))
  held_fine levels folder nid r is = message_fine (nested_held t levels) (nested_fine levels) folder nid r is
