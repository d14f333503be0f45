-- Words that name something begin with no hyphen.
use Rattle.std.proofs.Common.{◌≡◌, ℕ, Bool, true, false, List, [], ◌∷◌, Option, Some, None, refl}
use Rattle.std.specs.Prelude.{nat_eq, cond, length}
use Rattle.std.specs.List.{onto_first}
use Rattle.std.proofs.lemmas.Bool.{eqb-true}
use Rattle.clap.specs.Words.{Text}
use Rattle.pst_fault.specs.declared.kind.Kind.{Kind}
use Rattle.pst_explain.specs.Kinds.{kind_in_word}
use Rattle.pst_ask.specs.Nid.{all_named, nid_of_word, hex_number_in, path_of_word, paths_of, pieces_of, with_named}
use Rattle.pst_ask.specs.Property.{property_of_word}

-- a word that begins with no hyphen, and is not empty
abbrev pub IsPlain : Text → Type 0
IsPlain [] = ⊥
IsPlain (e ∷ more) = nat_eq e 45 ≡ false

abbrev pub ArePlain : List Text → Type 0
ArePlain [] = Unit {0}
ArePlain (word ∷ rest) = IsPlain word × ArePlain rest

never : {X : Type 0} (x : X) → None ≡ Some x → ⊥
never x is = absurd cc

-- ---- a node

node_first : (e : ℕ) (more : List ℕ) (nid : ℕ) (b : Bool) → nat_eq e 45 ≡ b → nid_of_word (e ∷ more) ≡ Some nid → b ≡ false
unfolding nid_of_word
node_first e more nid false is named = refl
node_first e more nid true is named = absurd (never nid (rw (eqb-true e 45 is) at named))

no_node : (nid : ℕ) → nid_of_word [] ≡ Some nid → ⊥
unfolding nid_of_word
no_node nid named = never nid named

pub node_plain : (word : Text) (nid : ℕ) → nid_of_word word ≡ Some nid → IsPlain word
node_plain [] nid named = no_node nid named
node_plain (e ∷ more) nid named = node_first e more nid (nat_eq e 45) refl named

-- ---- a path, and several

named_first : {X : Type 0} (o : Option X) (p : Option (List X)) (xs : List X) → with_named o p ≡ Some xs → (x : X) × (rest : List X) × (o ≡ Some x) × (p ≡ Some rest)
named_first None p xs is = absurd cc
named_first (Some x) None xs is = absurd cc
named_first (Some x) (Some rest) xs is = (x, rest, refl, refl)

no_first : (parts : List Text) (nids : List ℕ) → all_named nid_of_word ([] ∷ parts) ≡ Some nids → ⊥
unfolding all_named
no_first parts nids named =
    let first = named_first (nid_of_word []) (all_named nid_of_word parts) nids named in
    no_node first.0 first.2

of_first : (e : ℕ) (more : List ℕ) (parts : List Text) (nids : List ℕ) → all_named nid_of_word ((e ∷ more) ∷ parts) ≡ Some nids → nat_eq e 45 ≡ false
unfolding all_named
of_first e more parts nids named =
    let first = named_first (nid_of_word (e ∷ more)) (all_named nid_of_word parts) nids named in
    node_first e more first.0 (nat_eq e 45) refl first.2

path_first : (slash : Bool) (e : ℕ) (parts : List Text) (nids : List ℕ) → all_named nid_of_word (cond slash ([] ∷ parts) (onto_first e parts)) ≡ Some nids → nat_eq e 45 ≡ false
path_first true e parts nids named = absurd (no_first parts nids named)
path_first false e [] nids named = of_first e [] [] nids named
path_first false e (part ∷ parts) nids named = of_first e part parts nids named

pub path_plain : (word : Text) (nids : List ℕ) → path_of_word word ≡ Some nids → IsPlain word
path_plain [] nids named = no_first [] nids named
path_plain (e ∷ more) nids named = path_first (nat_eq e 47) e (pieces_of more) nids named

pub paths_plain : (words : List Text) (paths : List (List ℕ)) → paths_of words ≡ Some paths → ArePlain words
unfolding all_named
paths_plain [] paths named = tt
paths_plain (word ∷ rest) paths named =
    let first = named_first (path_of_word word) (paths_of rest) paths named in
    (path_plain word first.0 first.2, paths_plain rest first.1 first.3)

-- ---- a property

where_four : (four : Bool) (id : ℕ) (o : Option ℕ) → cond four o None ≡ Some id → o ≡ Some id
where_four true id o is = is
where_four false id o is = absurd (never id is)

property_first : (e : ℕ) (more : List ℕ) (id : ℕ) (b : Bool) → nat_eq e 45 ≡ b → hex_number_in (e ∷ more) ≡ Some id → b ≡ false
property_first e more id false is named = refl
property_first e more id true is named = absurd (never id (rw (eqb-true e 45 is) at named))

pub property_plain : (word : Text) (id : ℕ) → property_of_word word ≡ Some id → IsPlain word
unfolding property_of_word
property_plain [] id named = never id named
property_plain (e ∷ more) id named = property_first e more id (nat_eq e 45) refl (where_four (nat_eq (length (e ∷ more)) 4) id (hex_number_in (e ∷ more)) named)

-- ---- a kind

kind_first : (e : ℕ) (more : List ℕ) (kind : Kind) (b : Bool) → nat_eq e 45 ≡ b → kind_in_word (e ∷ more) ≡ Some kind → b ≡ false
kind_first e more kind false is named = refl
kind_first e more kind true is named = absurd (never kind (rw (eqb-true e 45 is) at named))

pub kind_plain : (word : Text) (kind : Kind) → kind_in_word word ≡ Some kind → IsPlain word
kind_plain [] kind named = never kind named
kind_plain (e ∷ more) kind named = kind_first e more kind (nat_eq e 45) refl named
