-- Trees of objects and lists that are made one member, and one item, after another.
use Rattle.std.proofs.Common.{◌≡◌, ℕ, List, [], ◌∷◌, ◌++◌, map, refl, sym, ap, ◌∙◌, append_assoc, Vec, BTreeMap, String, Global, string_bytes, string_cmp}
use Rattle.std.proofs.lemmas.List.{map-append}
use Rattle.std.specs.BTreeMap.{insert_entry}
use Rattle.serde_json.specs.Data.{Data, array, object, string, Items, no_items, item, Members, put}
use Rattle.serde_json.specs.View.{view, items_of, items_view, members_view}
use Rattle.serde_json.specs.declared.value.Value.{Value, Array, Object}
use Rattle.serde_json.proofs.Views.{view-Array, view-Object, members_view-insert_entry}

-- what stands there, with the last taken
pub but_last : (docs : List Value) (front : List Data) (x y : Data) → map view docs ≡ front ++ x ∷ y ∷ [] → map view docs ≡ (front ++ x ∷ []) ++ y ∷ []
but_last docs front x y is = is ∙ sym (append_assoc front (x ∷ []) (y ∷ []))

-- a document is put behind others
doc_put : (docs now : List Value) (v : Value) (front : List Data) (d : Data) → map view docs ≡ front → now ≡ docs ++ v ∷ [] → view v ≡ d → map view now ≡ front ++ d ∷ []
doc_put docs now v front d at is shows = ap (map view) is ∙ map-append view docs (v ∷ []) ∙ ap (λ l. l ++ view v ∷ []) at ∙ ap (λ x. front ++ x ∷ []) shows

-- a key is put behind an object
pub key_put : (docs now : List Value) (v : Value) (front : List Data) (x d : Data) → map view docs ≡ front ++ x ∷ [] → now ≡ docs ++ v ∷ [] → view v ≡ d → map view now ≡ front ++ x ∷ d ∷ []
key_put docs now v front x d at is shows = doc_put docs now v (front ++ x ∷ []) d at is shows ∙ append_assoc front (x ∷ []) (d ∷ [])

-- an object, a key and a value stand there
pub object_stands : (s old : List Value) (front : List Data) (ms : Members) (k : List ℕ) (d : Data) → map view s ≡ front ++ object ms ∷ string k ∷ [] → map view old ≡ map view s ++ d ∷ []
    → map view old ≡ front ++ object ms ∷ string k ∷ d ∷ []
object_stands s old front ms k d at put = put ∙ ap (λ l. l ++ d ∷ []) at ∙ append_assoc front (object ms ∷ string k ∷ []) (d ∷ [])

abbrev more : Items → Data → Items
more no_items d = item d no_items
more (item e ds) d = item e (more ds d)

items_more : (xs : List Data) (d : Data) → items_of (xs ++ d ∷ []) ≡ more (items_of xs) d
items_more [] d = refl
items_more (x ∷ xs) d = ap (item x) (items_more xs d)

-- an item is put into the list that stands last
pub item_in : (front done : List Data) (d : Data) (docs now items : List Value) (list : Vec Value Global) (value : Value) → map view docs ≡ front → items_view items ≡ items_of done
    → view value ≡ d → list.items ≡ items ++ value ∷ [] → now ≡ docs ++ Array list ∷ [] → map view now ≡ front ++ array (items_of (done ++ d ∷ [])) ∷ []
item_in front done d docs now items list value at has shows longer is =
    doc_put docs now (Array list) front (array (items_of (done ++ d ∷ []))) at is
    (view-Array list ∙ ap (λ vs. array (items_view vs)) longer
    ∙ ap array (ap items_of (map-append view items (value ∷ [])) ∙ items_more (map view items) (view value) ∙ ap (λ ds. more ds (view value)) has ∙ ap (more (items_of done)) shows ∙ sym (items_more done d)))

-- a member is put into the object that stands last
pub member_in : (front : List Data) (done : Members) (k : List ℕ) (d : Data) (docs now : List Value) (old new : BTreeMap (String Global) Value) (key : String Global) (value : Value) → map view docs ≡ front
    → members_view old.entries ≡ done → string_bytes key ≡ k → view value ≡ d → new.entries ≡ insert_entry string_cmp old.entries key value → now ≡ docs ++ Object new ∷ []
    → map view now ≡ front ++ object (put k d done) ∷ []
member_in front done k d docs now old new key value at has named shows inserted is =
    doc_put docs now (Object new) front (object (put k d done)) at is
    (view-Object new ∙ ap object (ap members_view inserted ∙ members_view-insert_entry old.entries key value ∙ rw (named, shows, has) refl))
