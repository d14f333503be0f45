-- The files of a folder: words that are the program's own, and identifiers of nodes.
use Rattle.std.proofs.Common.{◌≡◌, ◌≢◌, ◌<◌, ◌≤◌, ◌+◌, ◌^◌, ℕ, suc, Bool, true, false, List, [], ◌∷◌, ◌++◌, map, AllPairs, refl, sym, ap, subst, ◌∙◌, arith, append-nil}
use Rattle.std.specs.Prelude.{◌&&◌, not, nat_eq, Option, Some, None, IfSome, if◌then◌else◌, codes, flat_map, bytes_eq}
use Rattle.std.specs.List.{All, list_all}
use Rattle.std.proofs.lemmas.Grind.{flat_map-append}
use Rattle.std.proofs.lemmas.List.Elements.{All-append, All-cons, All-head, All-nil, All-tail, All-map}
use Rattle.std.proofs.lemmas.List.Kept.{AllPairs-cons}
use Rattle.pst_block.specs.Table.{Table}
use Rattle.pst_btree.specs.Entries.{first_with}
use Rattle.pst_btree.specs.Order.{Rises}
use Rattle.pst_btree.proofs.EntryLemmas.{with_contains}
use Rattle.pst_ndb.specs.Roots.{Roots}
use Rattle.pst_value_json.specs.declared.filed.TheConstants.{HEADERS, BODY, HTML, RTF, CONTENT}
use Rattle.pst_value_json.specs.Filed.{message_file, attachment_file}
use Rattle.pst_value_json.specs.pst_text.Names.{nid_text}
use Rattle.pst_value_json.specs.pst_pc.Values.{Property, id_of, props_of}
use Rattle.pst_tar.specs.Archive.{Member}
use Rattle.pst_export.specs.Files.{file_at, named_file, path_of, value_file}
use Rattle.pst_export.specs.Held.{folder_in}
use Rattle.pst_export.specs.Laws.{IsBeside, binary_type, text_type}
use Rattle.pst_export.proofs.BesideLemmas.{AreFine, HaveOtherParts, IsAt, IsFit, Slot, is_inner, nid_fit, nid_same, no_nid, pairs_joined, pairs_nil, pairs_one, slot_files, slot_of, slots_fine, words_differ}

-- ---- slots of words

-- one file
pub one_fit : (front word : List ℕ) (m : Member) → list_all is_inner word ≡ true → m.name ≡ front ++ word → IsFit front (slot_of word (m ∷ []))
one_fit front word m inner is = record {
  inner = inner;
  beside = pairs_one IsBeside m;
  at = All-cons (λ m. IsAt front word m.name) m [] ([], refl, is ∙ ap (λ l. front ++ l) (sym (append-nil word))) (All-nil (λ m. IsAt front word m.name));
}

pub none_fit : (front word : List ℕ) → list_all is_inner word ≡ true → IsFit front (slot_of word [])
none_fit front word inner = record { inner = inner; beside = pairs_nil IsBeside; at = All-nil (λ m. IsAt front word m.name) }

-- the file of a property, where it has one, is called so
abbrev IsCalled : List ℕ → Option (List ℕ) → Type 0
IsCalled word o = IfSome o (λ name. name ≡ word)

named_fit : (folder : List ℕ) (time : ℕ) (p : Property) (word : List ℕ) (o : Option (List ℕ)) → list_all is_inner word ≡ true → IsCalled word o → IsFit (folder ++ codes "/") (slot_of word (named_file folder time p o))
named_fit folder time p word None inner called = none_fit (folder ++ codes "/") word inner
named_fit folder time p word (Some name) inner called = one_fit (folder ++ codes "/") word _ inner (ap (path_of folder) called)

pub file_fit : (file : ℕ → ℕ → Option (List ℕ)) (t : Table) (r : Roots) (folder : List ℕ) (time id : ℕ) (word : List ℕ) → list_all is_inner word ≡ true → ((kind : ℕ) → IsCalled word (file id kind))
    → IsFit (folder ++ codes "/") (slot_of word (file_at file t r folder time id))
unfolding file_at
file_fit file t r folder time id word inner called = by_property (first_with id_of id (props_of t r)) refl
  where
    by_property : (o : Option Property) → first_with id_of id (props_of t r) ≡ o → IsFit (folder ++ codes "/") (slot_of word (value_file file folder time o))
    by_property None is = none_fit (folder ++ codes "/") word inner
    by_property (Some p) is =
        let own : p.id ≡ id = (with_contains id_of (props_of t r) id p is).1 in
        named_fit folder time p word (file p.id p.kind) inner (subst (λ i. IsCalled word (file i p.kind)) (sym own) (called p.kind))

abbrev nothing : Option (List ℕ)
nothing = None

one_name : (word : List ℕ) (b : Bool) → IsCalled word (if b then Some word else nothing)
one_name word true = refl
one_name word false = tt

either_name : (word : List ℕ) (a b : Bool) → IsCalled word (if a then Some word else (if b then Some word else nothing))
either_name word true b = refl
either_name word false b = one_name word b

pub headers_called : (kind : ℕ) → IsCalled (codes "headers.txt") (message_file HEADERS kind)
unfolding message_file
headers_called kind = one_name (codes "headers.txt") (nat_eq kind text_type)

pub body_called : (kind : ℕ) → IsCalled (codes "body.txt") (message_file BODY kind)
unfolding message_file
body_called kind = one_name (codes "body.txt") (nat_eq kind text_type)

pub html_called : (kind : ℕ) → IsCalled (codes "body.html") (message_file HTML kind)
unfolding message_file
html_called kind = either_name (codes "body.html") (nat_eq kind text_type) (nat_eq kind binary_type)

pub rtf_called : (kind : ℕ) → IsCalled (codes "body.rtf.lzfu") (message_file RTF kind)
unfolding message_file
rtf_called kind = one_name (codes "body.rtf.lzfu") (nat_eq kind binary_type)

pub data_called : (kind : ℕ) → IsCalled (codes "data") (attachment_file CONTENT kind)
unfolding attachment_file
data_called kind = one_name (codes "data") (nat_eq kind binary_type)

-- ---- words are others, and none is an identifier

abbrev is_word : List ℕ → Bool
is_word [] = false
is_word (c ∷ rest) = not (nat_eq c 48)

abbrev pub are_words : List Slot → Bool
are_words [] = true
are_words (s ∷ slots) = is_word s.part && are_words slots

abbrev differs : List ℕ → List Slot → Bool
differs word [] = true
differs word (s ∷ slots) = not (bytes_eq word s.part) && differs word slots

abbrev pub are_others : List Slot → Bool
are_others [] = true
are_others (s ∷ slots) = differs s.part slots && are_others slots

and_left : (a b : Bool) → (a && b) ≡ true → a ≡ true
and_left true b is = refl
and_left false b is = absurd cc

and_right : (a b : Bool) → (a && b) ≡ true → b ≡ true
and_right true b is = is
and_right false b is = absurd cc

not_true : (b : Bool) → not b ≡ true → b ≡ false
not_true true is = absurd cc
not_true false is = refl

all_others : (s : Slot) (slots : List Slot) → differs s.part slots ≡ true → All (HaveOtherParts s) slots
all_others s [] is = All-nil (HaveOtherParts s)
all_others s (x ∷ slots) is =
    let test = not (bytes_eq s.part x.part) in
    All-cons (HaveOtherParts s) x slots (words_differ s.part x.part (not_true (bytes_eq s.part x.part) (and_left test (differs s.part slots) is)))
    (all_others s slots (and_right test (differs s.part slots) is))

pub others_apart : (slots : List Slot) → are_others slots ≡ true → AllPairs HaveOtherParts slots
others_apart [] is = pairs_nil HaveOtherParts
others_apart (s ∷ slots) is =
    AllPairs-cons HaveOtherParts s slots (all_others s slots (and_left (differs s.part slots) (are_others slots) is))
    (others_apart slots (and_right (differs s.part slots) (are_others slots) is))

word_no_nid : (word : List ℕ) (nid : ℕ) → is_word word ≡ true → word ≢ nid_text nid
word_no_nid [] nid is = absurd cc
word_no_nid (c ∷ rest) nid is = no_nid c rest nid (not_true (nat_eq c 48) is)

-- a slot of an identifier
abbrev pub nid_slot : {X : Type 0} → (X → ℕ) → (X → List Member) → X → Slot
nid_slot nid files x = slot_of (nid_text (nid x)) (files x)

word_and_nids : {X : Type 0} (nid : X → ℕ) (files : X → List Member) (s : Slot) (xs : List X) → is_word s.part ≡ true → All (HaveOtherParts s) (map (nid_slot nid files) xs)
word_and_nids nid files s xs is = All-map (HaveOtherParts s) (nid_slot nid files) xs (λ k d within. word_no_nid s.part _ is)

words_and_nids : {X : Type 0} (nid : X → ℕ) (files : X → List Member) (slots : List Slot) (xs : List X) → are_words slots ≡ true → All (λ s. All (HaveOtherParts s) (map (nid_slot nid files) xs)) slots
words_and_nids nid files [] xs is = All-nil (λ s. All (HaveOtherParts s) (map (nid_slot nid files) xs))
words_and_nids nid files (s ∷ slots) xs is =
    All-cons (λ s. All (HaveOtherParts s) (map (nid_slot nid files) xs)) s slots (word_and_nids nid files s xs (and_left (is_word s.part) (are_words slots) is))
    (words_and_nids nid files slots xs (and_right (is_word s.part) (are_words slots) is))

-- ---- identifiers that rise are others

abbrev pub OtherTexts : {X : Type 0} → (X → ℕ) → X → X → Type 0
OtherTexts nid a b = nid_text (nid a) ≢ nid_text (nid b)

later_above : {X : Type 0} (nid : X → ℕ) (low : ℕ) (xs : List X) → Rises low None (map nid xs) → All (λ x. low ≤ nid x) xs
later_above nid low [] rise = All-nil (λ x. low ≤ nid x)
later_above nid low (x ∷ xs) rise =
    let here = rise.0 in
    All-cons (λ x. low ≤ nid x) x xs here (λ k d within. let above = later_above nid (nid x + 1) xs rise.2 k d within in omega (arith, here, above))

pub rising_others : {X : Type 0} (nid : X → ℕ) (low : ℕ) (xs : List X) → Rises low None (map nid xs) → All (λ x. nid x < 2 ^ 32) xs → AllPairs (OtherTexts nid) xs
rising_others nid low [] rise small = pairs_nil (OtherTexts nid)
rising_others nid low (x ∷ xs) rise small =
    let later = All-tail (λ x. nid x < 2 ^ 32) x xs small in
    AllPairs-cons (OtherTexts nid) x xs
    (λ k d within is. let above = later_above nid (nid x + 1) xs rise.2 k d within in let same = nid_same (nid x) _ (All-head (λ x. nid x < 2 ^ 32) x xs small) (later k d within) is in omega (arith, above, same))
    (rising_others nid (nid x + 1) xs rise.2 later)

pub pairs_mapped : {X Y : Type 0} (R : Y → Y → Type 0) (f : X → Y) (xs : List X) → AllPairs (λ a b. R (f a) (f b)) xs → AllPairs R (map f xs)
pairs_mapped R f [] all = pairs_nil R
pairs_mapped R f (x ∷ xs) all =
    AllPairs-cons R (f x) (map f xs) (All-map (R (f x)) f xs (λ k d within. all 0 (suc k) d (omega arith) (omega arith)))
    (pairs_mapped R f xs (λ i j d below within. all (suc i) (suc j) d (omega arith) (omega arith)))

-- ---- a folder of words, and of what is called as nodes

pub nids_fit : {X : Type 0} (folder : List ℕ) (nid : X → ℕ) (files : X → List Member) (xs : List X) → All (λ x. AreFine (folder_in folder (nid x)) (files x)) xs → All (IsFit (folder ++ codes "/")) (map (nid_slot nid files) xs)
nids_fit folder nid files xs fine = All-map (IsFit (folder ++ codes "/")) (nid_slot nid files) xs (λ k d within. nid_fit folder _ _ (fine k d within))

slots_joined : (slots more : List Slot) → flat_map slot_files (slots ++ more) ≡ flat_map slot_files slots ++ flat_map slot_files more
slots_joined slots more = flat_map-append slot_files slots more

nids_joined : {X : Type 0} (nid : X → ℕ) (files : X → List Member) (xs : List X) → flat_map slot_files (map (nid_slot nid files) xs) ≡ flat_map files xs
nids_joined nid files [] = refl
nids_joined nid files (x ∷ xs) = ap (λ l. files x ++ l) (nids_joined nid files xs)

pub folder_fine : {X : Type 0} (folder : List ℕ) (slots : List Slot) (nid : X → ℕ) (files : X → List Member) (xs : List X) → All (IsFit (folder ++ codes "/")) slots → are_words slots ≡ true → are_others slots ≡ true
    → All (λ x. AreFine (folder_in folder (nid x)) (files x)) xs → AllPairs (OtherTexts nid) xs → AreFine folder (flat_map slot_files slots ++ flat_map files xs)
folder_fine folder slots nid files xs fits words others fine differ =
    let nids = map (nid_slot nid files) xs in
    subst (AreFine folder) (slots_joined slots nids ∙ ap (λ l. flat_map slot_files slots ++ l) (nids_joined nid files xs))
    (slots_fine folder (slots ++ nids) (All-append (IsFit (folder ++ codes "/")) slots nids fits (nids_fit folder nid files xs fine))
    (pairs_joined HaveOtherParts slots nids (others_apart slots others) (pairs_mapped HaveOtherParts (nid_slot nid files) xs differ) (words_and_nids nid files slots xs words)))
