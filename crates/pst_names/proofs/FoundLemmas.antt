-- The entry that names a property, and its name.
use Rattle.std.proofs.Common.{◌≡◌, ◌≢◌, ℕ, suc, ◌+◌, ◌-◌, ◌*◌, ◌/◌, ◌%◌, ◌<◌, ◌≤◌, true, false, eqb, List, length, Option, Some, None, refl, sym, ap, ◌∙◌, arith}
use Rattle.std.proofs.lemmas.Bool.{eq-eqb, ne_eqb}
use Rattle.pst_btree.specs.Entries.{first_with}
use Rattle.std.specs.Prelude.{nat_eq, slice_range, option_map}
use Rattle.uuid.specs.Parts.{swap_fields}
use Rattle.pst_block.specs.Table.{Table}
use Rattle.pst_datatree.specs.Spans.{joined_bytes}
use Rattle.pst_ndb.specs.Roots.{Roots}
use Rattle.pst_value.specs.Read.{exactly, guid_of}
use Rattle.pst_names.specs.declared.fields.Fields.{Fields}
use Rattle.pst_names.specs.declared.streams.TheConstants.{GUIDS, ENTRIES}
use Rattle.pst_names.specs.Streams.{stream_of, stream_bytes, stream_spans}
use Rattle.pst_names.specs.Entry.{NameEntry, is_text, guid_index, prop_id, entry_with, name_entries}
use Rattle.pst_names.specs.Fault.{strings_of}
use Rattle.pst_names.specs.Index.{fields_in}
use Rattle.pst_names.specs.Grammar.{HasText, IsEntry}
use Rattle.pst_names.specs.Name.{KindParts, guid_in, set_with, name_kind, name_in, naming_entry, name_of_property}
use Rattle.pst_names.proofs.NumLemmas.{length_range}

-- the entry with a key from a number on, of so many in all
abbrev pub found_from : (NameEntry → ℕ) → ℕ → (ℕ → NameEntry) → ℕ → ℕ → Option NameEntry
found_from key id entry i count = first_with key id (name_entries entry i (count - i))

-- one with another key goes by
pub other_passes : (key : NameEntry → ℕ) (id : ℕ) (entry : ℕ → NameEntry) (i count : ℕ) (total : Option NameEntry) → i < count → key (entry i) ≢ id → found_from key id entry i count ≡ total → found_from key id entry (i + 1) count ≡ total
unfolding first_with name_entries
other_passes key id entry i count total lt other so_far =
    let n : count - i ≡ suc (count - (i + 1)) = omega (arith, lt) in
    let differs : eqb (key (entry i)) id ≡ false = ne_eqb (key (entry i)) id other in
    let here : first_with key id (name_entries entry i (count - i)) ≡ first_with key id (name_entries entry (i + 1) (count - (i + 1))) = rw (n, differs) refl in
    sym here ∙ so_far

-- one with the key is found
pub one_found : (key : NameEntry → ℕ) (id : ℕ) (entry : ℕ → NameEntry) (i count : ℕ) (total : Option NameEntry) → i < count → key (entry i) ≡ id → found_from key id entry i count ≡ total → total ≡ Some (entry i)
unfolding first_with name_entries
one_found key id entry i count total lt same so_far =
    let n : count - i ≡ suc (count - (i + 1)) = omega (arith, lt) in
    let equal : eqb (key (entry i)) id ≡ true = eq-eqb (key (entry i)) id same in
    let here : first_with key id (name_entries entry i (count - i)) ≡ Some (entry i) = rw (n, equal) refl in
    sym so_far ∙ here

-- none is left
pub none_found : (key : NameEntry → ℕ) (id : ℕ) (entry : ℕ → NameEntry) (i count : ℕ) (total : Option NameEntry) → count - i ≡ 0 → found_from key id entry i count ≡ total → total ≡ None
unfolding first_with name_entries
none_found key id entry i count total none so_far = let here : first_with key id (name_entries entry i (count - i)) ≡ None = rw none refl in sym so_far ∙ here

-- all are left
pub all_found : (t : Table) (r : Roots) (I : List ℕ) (id count : ℕ) → joined_bytes I (stream_spans t r ENTRIES) ≡ stream_bytes (stream_of t r ENTRIES) → count ≡ length (stream_bytes (stream_of t r ENTRIES)) / 8
    → found_from prop_id id (entry_with (stream_spans t r ENTRIES) (joined_bytes I (stream_spans t r ENTRIES))) 0 count ≡ naming_entry t r id
all_found t r I id count bytes is = let whole : count - 0 ≡ count = omega arith in rw (whole, bytes, is) refl

-- ---- its set

pub set_is : (guids : List ℕ) (index : ℕ) → 3 ≤ index → set_with guids index ≡ Some (guid_in guids (index - 3))
unfolding set_with
set_is guids index le =
    let a : eqb index 0 ≡ false = ne_eqb index 0 (λ e. absurd (omega (arith, le, e))) in
    let b : eqb index 1 ≡ false = ne_eqb index 1 (λ e. absurd (omega (arith, le, e))) in
    let c : eqb index 2 ≡ false = ne_eqb index 2 (λ e. absurd (omega (arith, le, e))) in
    rw (a, b, c) refl

pub guid_read : (bytes guids : List ℕ) (g : ℕ) → bytes ≡ slice_range guids (16 * g) (16 * g + 16) → 16 * g + 16 ≤ length guids → exactly 16 guid_of bytes ≡ Some (guid_in guids g)
guid_read bytes guids g is le =
    let len : length bytes ≡ 16 = ap (λ (bs : List ℕ). length bs) is ∙ length_range guids (16 * g) 16 le in
    let whole : nat_eq (length bytes) 16 ≡ true = eq-eqb (length bytes) 16 len in
    rw whole (ap (λ bs. Some (swap_fields bs)) is)

-- ---- its name

-- the entry whose fields were found
pub fields_found : (o : Option NameEntry) (f : Fields) → Some f ≡ option_map fields_in o → (e : NameEntry) × (o ≡ Some e) × (f ≡ fields_in e)
fields_found None f is = absurd cc
fields_found (Some e) f is = (e, refl, cc)

-- no entry was found
pub none_there : (o : Option NameEntry) → None ≡ option_map fields_in o → o ≡ None
none_there None is = refl
none_there (Some e) is = absurd cc

pub name_some : (t : Table) (r : Roots) (id : ℕ) (e : NameEntry) → naming_entry t r id ≡ Some e → name_of_property t r id ≡ Some (name_in (stream_bytes (stream_of t r GUIDS)) (strings_of t r) e)
unfolding name_of_property
name_some t r id e found = rw found refl

pub name_none : (t : Table) (r : Roots) (id : ℕ) → naming_entry t r id ≡ None → name_of_property t r id ≡ None
unfolding name_of_property
name_none t r id none = rw none refl

pub parts_are : (guids strings : List ℕ) (e : NameEntry) (set : Option (List ℕ)) (kind : KindParts) → set ≡ set_with guids (guid_index e) → kind ≡ name_kind strings e → record { set = set; kind = kind } ≡ name_in guids strings e
parts_are guids strings e set kind same_set same_kind = rw (same_set, same_kind) refl

-- where the word of an entry says that its name is a string, that string is there
pub text_asked : (guids : ℕ) (strings : List ℕ) (e : NameEntry) (id word : ℕ) → id ≡ e.id → word ≡ e.word → IsEntry guids strings e → word % 2 ≡ 1 → HasText strings id
text_asked guids strings e id word same_id same_word is odd =
    let text : is_text e ≡ true = eq-eqb (e.word % 2) 1 (ap (λ n. n % 2) (sym same_word) ∙ odd) in
    rw same_id (is.text text)
