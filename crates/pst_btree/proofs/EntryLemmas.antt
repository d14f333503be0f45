-- Look-ups among entries.
use Rattle.std.proofs.Common.{◌≡◌, ◌≢◌, ℕ, suc, zero, ◌+◌, ◌<◌, ◌≤◌, Bool, true, false, cond, eqb, List, [], ◌∷◌, map, length, get_or, Option, Some, None, refl, sym, ap, ◌∙◌, arith}
use Rattle.std.specs.Prelude.{option_map}
use Rattle.std.specs.List.{Contains}
use Rattle.std.proofs.lemmas.Bool.{eqb-true, eq-eqb, ne_eqb}
use Rattle.pst_fault.proofs.GeneralLemmas.{some_is}
use Rattle.pst_fault.proofs.EachLemmas.{contains_later}
use Rattle.pst_header.specs.declared.header.Bref.{Bref}
use Rattle.pst_page.specs.declared.kind.PageKind.TheVariants.{Bbt, Nbt}
use Rattle.pst_page.specs.Entry.{key_at, block_entry_at, node_entry_at}
use Rattle.pst_page.proofs.EntryLemmas.{block_entry_key}
use Rattle.pst_btree.specs.Entries.{block_key, node_key, first_with, block_with, node_with, BlockMapLaw, NodeMapLaw}
use Rattle.pst_btree.specs.Find.{first_at}
use Rattle.pst_btree.specs.Order.{Rises}
use Rattle.pst_btree.specs.Tree.{entries_of, tree_at, IsTreeAt}
use Rattle.pst_btree.proofs.RiseLemmas.{tree_rises}

-- ---- by place and by entry

pub block_with_first : (I : List ℕ) (key : ℕ) (places : List ℕ) → block_with key (map (block_entry_at I) places) ≡ option_map (block_entry_at I) (first_at Bbt I key places)
unfolding first_with first_at
block_with_first I key [] = refl
block_with_first I key (at ∷ rest) = rw (block_entry_key I at) (by_test (eqb (key_at Bbt I at) key) (block_with_first I key rest))
  where
    by_test : (t : Bool) → block_with key (map (block_entry_at I) rest) ≡ option_map (block_entry_at I) (first_at Bbt I key rest)
        → cond t (Some (block_entry_at I at)) (block_with key (map (block_entry_at I) rest)) ≡ option_map (block_entry_at I) (cond t (Some at) (first_at Bbt I key rest))
    by_test true ih = refl
    by_test false ih = ih

pub node_with_first : (I : List ℕ) (nid : ℕ) (places : List ℕ) → node_with nid (map (node_entry_at I) places) ≡ option_map (node_entry_at I) (first_at Nbt I nid places)
unfolding first_with first_at node_entry_at key_at
node_with_first I nid [] = refl
node_with_first I nid (at ∷ rest) = by_test (eqb (key_at Nbt I at) nid) (node_with_first I nid rest)
  where
    by_test : (t : Bool) → node_with nid (map (node_entry_at I) rest) ≡ option_map (node_entry_at I) (first_at Nbt I nid rest)
        → cond t (Some (node_entry_at I at)) (node_with nid (map (node_entry_at I) rest)) ≡ option_map (node_entry_at I) (cond t (Some at) (first_at Nbt I nid rest))
    by_test true ih = refl
    by_test false ih = ih

-- ---- a list whose keys rise is a finite map

-- what is found is one of the entries, and has the key
pub with_contains : {X : Type 0} (key_in : X → ℕ) (entries : List X) (key : ℕ) (e : X) → first_with key_in key entries ≡ Some e → Contains entries e × (key_in e ≡ key)
unfolding first_with
with_contains key_in [] key e h = absurd cc
with_contains key_in (x ∷ xs) key e h = by_test (eqb (key_in x) key) (λ t. eqb-true _ _ t) (with_contains key_in xs key e) h
  where
    by_test : (t : Bool) → (t ≡ true → key_in x ≡ key) → (first_with key_in key xs ≡ Some e → Contains xs e × (key_in e ≡ key)) → cond t (Some x) (first_with key_in key xs) ≡ Some e → Contains (x ∷ xs) e × (key_in e ≡ key)
    by_test true is ih same =
        let s = some_is x e same in
        ((zero, omega arith, s), ap key_in (sym s) ∙ is refl)
    by_test false is ih same = let c = ih same in (contains_later x e xs c.0, c.1)

-- no key is less than the least
pub at_least : {X : Type 0} (key_in : X → ℕ) (low : ℕ) (high : Option ℕ) (entries : List X) (i : ℕ) (d : X) → i < length entries → Rises low high (map key_in entries) → low ≤ key_in (get_or entries i d)
at_least key_in low high [] i d lt r = absurd (omega arith)
at_least key_in low high (x ∷ xs) zero d lt r = r.0
at_least key_in low high (x ∷ xs) (suc i) d lt r =
    let rest = at_least key_in (key_in x + 1) high xs i d (omega arith) r.2 in
    omega (arith, rest, r.0)

-- an entry that has the key is found
pub contains_with : {X : Type 0} (key_in : X → ℕ) (entries : List X) (low : ℕ) (high : Option ℕ) (key : ℕ) (e : X) (i : ℕ) → Rises low high (map key_in entries) → i < length entries → get_or entries i e ≡ e → key_in e ≡ key → first_with key_in key entries ≡ Some e
unfolding first_with
contains_with key_in [] low high key e i r lt is same = absurd (omega arith)
contains_with key_in (x ∷ xs) low high key e zero r lt is same =
    let here : key_in x ≡ key = ap key_in is ∙ same in
    rw (eq-eqb _ _ here) (ap Some is)
contains_with key_in (x ∷ xs) low high key e (suc i) r lt is same =
    let reach = rw is at (at_least key_in (key_in x + 1) high xs i e (omega arith) r.2) in
    let ne : key_in x ≢ key = λ t. omega (arith, reach, same, t) in
    rw (ne_eqb _ _ ne) (contains_with key_in xs (key_in x + 1) high key e i r.2 (omega arith) is same)

pub block_map_law : BlockMapLaw
block_map_law entries r key e = (with_contains block_key entries key e, λ h. contains_with block_key entries 0 None key e h.0.0 r h.0.1 h.0.2 h.1)

pub node_map_law : NodeMapLaw
node_map_law entries r nid e = (with_contains node_key entries nid e, λ h. contains_with node_key entries 0 None nid e h.0.0 r h.0.1 h.0.2 h.1)

-- ---- the keys of the entries of a tree

block_keys_at : (I : List ℕ) (places : List ℕ) → map block_key (map (block_entry_at I) places) ≡ map (key_at Bbt I) places
block_keys_at I [] = refl
block_keys_at I (at ∷ rest) = rw (block_entry_key I at, block_keys_at I rest) refl

node_keys_at : (I : List ℕ) (places : List ℕ) → map node_key (map (node_entry_at I) places) ≡ map (key_at Nbt I) places
unfolding node_entry_at key_at
node_keys_at I [] = refl
node_keys_at I (at ∷ rest) = rw (node_keys_at I rest) refl

pub block_keys_rise : (I : List ℕ) (end level : ℕ) (page : Bref) → IsTreeAt Bbt I end level page 0 None → Rises 0 None (map block_key (map (block_entry_at I) (entries_of (tree_at Bbt I level page))))
block_keys_rise I end level page t = rw (block_keys_at I (entries_of (tree_at Bbt I level page))) (tree_rises Bbt I (tree_at Bbt I level page) 0 None t.bounded)

pub node_keys_rise : (I : List ℕ) (end level : ℕ) (page : Bref) → IsTreeAt Nbt I end level page 0 None → Rises 0 None (map node_key (map (node_entry_at I) (entries_of (tree_at Nbt I level page))))
node_keys_rise I end level page t = rw (node_keys_at I (entries_of (tree_at Nbt I level page))) (tree_rises Nbt I (tree_at Nbt I level page) 0 None t.bounded)
