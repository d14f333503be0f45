-- The files of an archive lie beside one another.
use Rattle.std.proofs.Common.{◌≡◌, ◌<◌, ◌^◌, ℕ, Bool, true, false, List, [], ◌∷◌, ◌++◌, map, cond, AllPairs, refl, sym, ap, subst, ◌∙◌, append_assoc, append-nil}
use Rattle.std.specs.Prelude.{◌||◌, Option, Some, None, Result, Ok, Err, codes, flat_map}
use Rattle.std.specs.List.{All, list_all}
use Rattle.std.proofs.lemmas.Bool.{eqb-true}
use Rattle.std.proofs.lemmas.List.Concat.{flat_map_single}
use Rattle.std.proofs.lemmas.List.Elements.{All-cons, All-nil}
use Rattle.std.proofs.lemmas.List.Kept.{AllPairs-filter}
use Rattle.pst_encoding.specs.Tables.{IsByte}
use Rattle.pst_fault.specs.Each.{first_of, if_there as fault_there}
use Rattle.pst_fault.proofs.FirstLemmas.{none_then}
use Rattle.pst_page.specs.declared.entry.NodeEntry.{NodeEntry}
use Rattle.pst_block.specs.Table.{Table}
use Rattle.pst_btree.specs.Entries.{node_key}
use Rattle.pst_btree.specs.Order.{Rises}
use Rattle.pst_subnode.specs.declared.check.TheConstants.{LISTS}
use Rattle.pst_ndb.specs.Roots.{Roots, all_roots, entry_roots, node_in}
use Rattle.pst_msg.specs.pst_mail.declared.nid.TheConstants.{STORE, MESSAGE, ASSOCIATED}
use Rattle.pst_msg.specs.pst_names.declared.name_map.TheConstants.{NAME_MAP}
use Rattle.pst_msg.specs.Fault.{message_fault, name_map_fault}
use Rattle.pst_msg.specs.Nid.{is_type, type_of}
use Rattle.pst_msg.specs.Values.{is_folder, is_message}
use Rattle.pst_msg.proofs.MessageLaws.{none_message}
use Rattle.pst_intact.specs.Fault.{intact_fault, intact_node_fault}
use Rattle.pst_verify.specs.pst_store.Kind.{of_kind}
use Rattle.pst_value_json.specs.pst_names.Name.{NameParts, store_name}
use Rattle.pst_json.specs.pst_props.declared.fault.DocFault.{DocFault}
use Rattle.pst_json.specs.pst_whole.Lost.{LostParts}
use Rattle.pst_json.specs.Folders.{folders_line}
use Rattle.pst_json.specs.Messages.{messages_text}
use Rattle.pst_json.specs.Node.{props_line}
use Rattle.pst_tar.specs.Archive.{Member}
use Rattle.pst_export.specs.declared.walk.TheConstants.{LEVELS}
use Rattle.pst_export.specs.Held.{folder_in, held_in_folder}
use Rattle.pst_export.specs.Laws.{AreIntact, BesideLaw, IsBeside}
use Rattle.pst_export.specs.Store.{all_files, damage_file, member_named, folder_file, folder_files, message_files, messages_files, of_type, store_file}
use Rattle.pst_export.proofs.BesideLemmas.{AreFine, IsFit, IsIn, Slot, is_inner, pairs_one, slot_files, slot_of, slots_beside}
use Rattle.pst_export.proofs.NestLemmas.{held_fine}
use Rattle.pst_export.proofs.SlotLemmas.{OtherTexts, folder_fine, none_fit, one_fit, others_apart, pairs_mapped, rising_others}
use Rattle.pst_export.proofs.StoreLemmas.{message_kind, associated_kind}

-- ---- nodes of one kind

top_of : Roots → ℕ
top_of r = r.top

-- their identifiers have other texts
tops_others : (nodes : List NodeEntry) (kind : ℕ → Bool) → All (λ (e : NodeEntry). e.nid < 2 ^ 32) nodes → Rises 0 None (map node_key nodes) → AllPairs (OtherTexts top_of) (of_kind kind (all_roots nodes))
unfolding top_of
tops_others nodes kind small rise =
    AllPairs-filter (OtherTexts top_of) (λ (r : Roots). kind r.top) (all_roots nodes) (pairs_mapped (OtherTexts top_of) entry_roots nodes (rising_others node_key 0 nodes rise small))

-- a message among intact nodes has no fault
either : {P : Type 0} (a b : Bool) → (a || b) ≡ true → (a ≡ true → P) → (b ≡ true → P) → P
either true b is first second = first refl
either false b is first second = second is

of_message : (t : Table) (nodes : List NodeEntry) (r : Roots) → is_message r.top ≡ true → intact_node_fault t nodes r ≡ None → message_fault t r ≡ None
unfolding intact_node_fault
of_message t nodes r is none = either (is_type MESSAGE r.top) (is_type ASSOCIATED r.top) is
    (λ e. let kind = eqb-true (type_of r.top) MESSAGE e in rw kind at none)
    (λ e. let kind = eqb-true (type_of r.top) ASSOCIATED e in rw kind at none)

messages_sound : (t : Table) (nodes : List NodeEntry) (kind : ℕ) (rs : List Roots) → ((nid : ℕ) → is_type kind nid ≡ true → is_message nid ≡ true) → first_of (intact_node_fault t nodes) rs ≡ None
    → All (λ r. message_fault t r ≡ None) (of_kind (is_type kind) rs)
unfolding first_of
messages_sound t nodes kind [] within none = All-nil (λ r. message_fault t r ≡ None)
messages_sound t nodes kind (r ∷ rs) within none =
    let both = none_then (intact_node_fault t nodes r) (first_of (intact_node_fault t nodes) rs) none in
    by_kind (is_type kind r.top) refl both.0 (messages_sound t nodes kind rs within both.1)
  where
    by_kind : (b : Bool) → is_type kind r.top ≡ b → intact_node_fault t nodes r ≡ None → All (λ r. message_fault t r ≡ None) (of_kind (is_type kind) rs)
        → All (λ r. message_fault t r ≡ None) (cond b (r ∷ of_kind (is_type kind) rs) (of_kind (is_type kind) rs))
    by_kind true is sound later = All-cons (λ r. message_fault t r ≡ None) r (of_kind (is_type kind) rs) (of_message t nodes r (within r.top is) sound) later
    by_kind false is sound later = later

-- ---- the files of folders, and of messages of one type

folder_alone : (names : ℕ → Option NameParts) (t : Table) (r : Roots) → AreFine (folder_in (codes "folders") r.top) (folder_file names t r ∷ [])
unfolding folder_file
folder_alone names t r = record {
  beside = pairs_one IsBeside (folder_file names t r);
  inside = All-cons (IsIn (folder_in (codes "folders") r.top)) (folder_file names t r) [] (codes "props.json", refl) (All-nil (IsIn (folder_in (codes "folders") r.top)));
}

folders_fine : (names : ℕ → Option NameParts) (t : Table) (rs : List Roots) → AllPairs (OtherTexts top_of) rs → AreFine (codes "folders") (folder_files names t rs)
unfolding top_of
folders_fine names t rs differ =
    let one : Roots → List Member = λ r. folder_file names t r ∷ [] in
    subst (AreFine (codes "folders")) (flat_map_single (folder_file names t) rs)
    (folder_fine (codes "folders") [] top_of one rs (All-nil (IsFit (codes "folders" ++ codes "/"))) refl refl (λ k d within. folder_alone names t _) differ)

messages_fine : (names : ℕ → Option NameParts) (t : Table) (name : List ℕ) (rs : List Roots) → All IsByte t.image → AllPairs (OtherTexts top_of) rs → All (λ r. message_fault t r ≡ None) rs
    → AreFine name (messages_files names t name rs)
unfolding message_files held_in_folder top_of
messages_fine names t name rs bytes differ sound =
    let fine : All (λ r. AreFine (folder_in name r.top) (message_files names t name r)) rs = λ k d within. held_fine names t _ bytes LEVELS _ _ _ (none_message t LISTS _ (sound k d within)) in
    folder_fine name [] top_of (message_files names t name) rs (All-nil (IsFit (name ++ codes "/"))) refl refl fine differ

-- ---- all files

-- those in a folder
folder_fit : (word : List ℕ) (files : List Member) → list_all is_inner word ≡ true → AreFine word files → IsFit [] (slot_of word files)
folder_fit word files inner fine = record {
  inner = inner;
  beside = fine.beside;
  at = λ k d within. let below = fine.inside k d within in (47 ∷ below.0, refl, below.1 ∙ append_assoc word (codes "/") below.0);
}

damage_fit : (o : Option (List ℕ)) → IsFit [] (slot_of (codes "damage.json") (damage_file o))
damage_fit None = none_fit [] (codes "damage.json") refl
damage_fit (Some text) = one_fit [] (codes "damage.json") (member_named (codes "damage.json") text) refl refl

store_fit : (o : Result (List ℕ) DocFault) → IsFit [] (slot_of (codes "store.json") (store_file o))
store_fit (Ok line) = one_fit [] (codes "store.json") (member_named (codes "store.json") line) refl refl
store_fit (Err f) = none_fit [] (codes "store.json") refl

module _ (damage : Option (List ℕ)) (t : Table) (nodes : List NodeEntry) (lost : LostParts) (given : AreIntact t nodes) where
  names : ℕ → Option NameParts
  names = store_name t nodes

  sound : first_of (intact_node_fault t nodes) (all_roots nodes) ≡ None
  unfolding intact_fault
  sound = (none_then (fault_there (name_map_fault t) (node_in nodes NAME_MAP)) (first_of (intact_node_fault t nodes) (all_roots nodes)) given.sound).1

  abbrev told : Slot
  told = slot_of (codes "damage.json") (damage_file damage)

  abbrev store : Slot
  store = slot_of (codes "store.json") (store_file (props_line false t nodes (STORE ∷ [])))

  abbrev list : Slot
  list = slot_of (codes "folders.json") (member_named (codes "folders.json") (folders_line t nodes lost) ∷ [])

  abbrev summaries : Slot
  summaries = slot_of (codes "messages.jsonl") (member_named (codes "messages.jsonl") (messages_text t nodes) ∷ [])

  abbrev folders : Slot
  folders = slot_of (codes "folders") (folder_files (store_name t nodes) t (of_kind is_folder (all_roots nodes)))

  abbrev messages : Slot
  messages = slot_of (codes "messages") (messages_files (store_name t nodes) t (codes "messages") (of_type MESSAGE nodes))

  abbrev associated : Slot
  associated = slot_of (codes "associated") (messages_files (store_name t nodes) t (codes "associated") (of_type ASSOCIATED nodes))

  abbrev slots : List Slot
  slots = told ∷ store ∷ list ∷ summaries ∷ folders ∷ messages ∷ associated ∷ []

  messages_fit : (kind : ℕ) (name : List ℕ) → ((nid : ℕ) → is_type kind nid ≡ true → is_message nid ≡ true) → list_all is_inner name ≡ true → IsFit [] (slot_of name (messages_files (store_name t nodes) t name (of_type kind nodes)))
  messages_fit kind name within inner =
      folder_fit name _ inner (messages_fine (store_name t nodes) t name (of_type kind nodes) given.bytes (tops_others nodes (is_type kind) given.nids given.rise) (messages_sound t nodes kind (all_roots nodes) within sound))

  fits : All (IsFit []) slots
  fits =
      All-cons (IsFit []) told (store ∷ list ∷ summaries ∷ folders ∷ messages ∷ associated ∷ []) (damage_fit damage)
      (All-cons (IsFit []) store (list ∷ summaries ∷ folders ∷ messages ∷ associated ∷ []) (store_fit (props_line false t nodes (STORE ∷ [])))
      (All-cons (IsFit []) list (summaries ∷ folders ∷ messages ∷ associated ∷ []) (one_fit [] (codes "folders.json") (member_named (codes "folders.json") (folders_line t nodes lost)) refl refl)
      (All-cons (IsFit []) summaries (folders ∷ messages ∷ associated ∷ []) (one_fit [] (codes "messages.jsonl") (member_named (codes "messages.jsonl") (messages_text t nodes)) refl refl)
      (All-cons (IsFit []) folders (messages ∷ associated ∷ []) (folder_fit (codes "folders") folders.files refl (folders_fine (store_name t nodes) t (of_kind is_folder (all_roots nodes)) (tops_others nodes is_folder given.nids given.rise)))
      (All-cons (IsFit []) messages (associated ∷ []) (messages_fit MESSAGE (codes "messages") message_kind refl)
      (All-cons (IsFit []) associated [] (messages_fit ASSOCIATED (codes "associated") associated_kind refl) (All-nil (IsFit []))))))))

  -- the files, as they stand in all
  joined : flat_map slot_files slots ≡ all_files damage t nodes lost
  unfolding all_files
  joined =
      let a = store.files in
      let b = list.files ++ summaries.files in
      let c = folders.files in
      let d = messages.files in
      let e = associated.files in
      ap (λ l. told.files ++ l)
      (ap (λ l. a ++ (b ++ (c ++ (d ++ l)))) (append-nil e) ∙ sym (append_assoc a b (c ++ (d ++ e))) ∙ sym (append_assoc (a ++ b) c (d ++ e)) ∙ sym (append_assoc ((a ++ b) ++ c) d e))

  pub files_beside : AllPairs IsBeside (all_files damage t nodes lost)
  files_beside = subst (AllPairs IsBeside) joined (slots_beside [] slots fits (others_apart slots refl))

pub beside_law : BesideLaw
beside_law damage t nodes lost given = files_beside damage t nodes lost given
