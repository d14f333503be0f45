-- Nodes and faults that are put one after another.
use Rattle.std.proofs.Common.{◌≡◌, ℕ, zero, suc, ◌+◌, ◌<◌, ◌≤◌, List, [], ◌∷◌, ◌++◌, length, drop, get_or, map, None, refl, sym, ap, ◌∙◌, append_assoc, arith}
use Rattle.std.proofs.lemmas.List.{append-nil, drop_more, map-append}
use Rattle.pst_fault.specs.declared.fault.Fault.{Fault}
use Rattle.pst_page.specs.declared.entry.NodeEntry.{NodeEntry}
use Rattle.pst_page.specs.declared.kind.PageKind.TheVariants.{Nbt}
use Rattle.pst_page.specs.Entry.{key_at, node_entry_at}
use Rattle.pst_page.specs.Page.{entries_at}
use Rattle.pst_btree.specs.Entries.{node_key}
use Rattle.pst_btree.specs.Order.{Rises}
use Rattle.pst_remains.specs.declared.pages.Broken.{Broken}
use Rattle.pst_remains.specs.Pages.{leaf_entries, faults_of}

pub appended : (xs : List NodeEntry) (x : NodeEntry) (ys : List NodeEntry) → (xs ++ x ∷ []) ++ ys ≡ xs ++ x ∷ ys
appended xs x ys = append_assoc xs (x ∷ []) ys

pub append_none : (xs : List NodeEntry) → xs ++ [] ≡ xs
append_none xs = append-nil xs

pub drop_past : {X : Type 0} (xs : List X) (i : ℕ) → length xs ≤ i → drop i xs ≡ []
drop_past [] zero le = refl
drop_past [] (suc i) le = refl
drop_past (x ∷ rest) zero le = absurd (omega arith)
drop_past (x ∷ rest) (suc i) le = drop_past rest i (omega arith)

-- the leaves, from one on
pub nodes_next : (I : List ℕ) (now next total : List NodeEntry) (leaves : List ℕ) (i d : ℕ) → i < length leaves → next ≡ now ++ map (node_entry_at I) (entries_at I (get_or leaves i d))
    → now ++ map (node_entry_at I) (leaf_entries I (drop i leaves)) ≡ total → next ++ map (node_entry_at I) (leaf_entries I (drop (i + 1) leaves)) ≡ total
nodes_next I now next total leaves i d lt h so_far =
    let one = map (node_entry_at I) (entries_at I (get_or leaves i d)) in
    let rest = map (node_entry_at I) (leaf_entries I (drop (i + 1) leaves)) in
    let spread : map (node_entry_at I) (leaf_entries I (drop i leaves)) ≡ one ++ rest =
    ap (λ (xs : List ℕ). map (node_entry_at I) (leaf_entries I xs)) (drop_more leaves i d lt) ∙ map-append (node_entry_at I) (entries_at I (get_or leaves i d)) (leaf_entries I (drop (i + 1) leaves)) in
    ap (λ (xs : List NodeEntry). xs ++ rest) h ∙ append_assoc now one rest ∙ sym (ap (λ (xs : List NodeEntry). now ++ xs) spread) ∙ so_far

pub nodes_done : (I : List ℕ) (now total : List NodeEntry) (leaves : List ℕ) (i : ℕ) → length leaves ≤ i → now ++ map (node_entry_at I) (leaf_entries I (drop i leaves)) ≡ total → now ≡ total
nodes_done I now total leaves i le so_far =
    sym (append-nil now) ∙ sym (ap (λ (xs : List ℕ). now ++ map (node_entry_at I) (leaf_entries I xs)) (drop_past leaves i le)) ∙ so_far

-- the pages, from one on
pub faults_next : (now next total : List Fault) (broken : List Broken) (i : ℕ) (d : Broken) → i < length broken → next ≡ now ++ (get_or broken i d).fault ∷ []
    → now ++ faults_of (drop i broken) ≡ total → next ++ faults_of (drop (i + 1) broken) ≡ total
faults_next now next total broken i d lt h so_far =
    let rest = faults_of (drop (i + 1) broken) in
    ap (λ (xs : List Fault). xs ++ rest) h ∙ append_assoc now ((get_or broken i d).fault ∷ []) rest
    ∙ sym (ap (λ (xs : List Broken). now ++ faults_of xs) (drop_more broken i d lt)) ∙ so_far

pub faults_done : (now total : List Fault) (broken : List Broken) (i : ℕ) → length broken ≤ i → now ++ faults_of (drop i broken) ≡ total → now ≡ total
faults_done now total broken i le so_far =
    sym (append-nil now) ∙ sym (ap (λ (xs : List Broken). now ++ faults_of xs) (drop_past broken i le)) ∙ so_far

-- ---- the identifiers of nodes rise

keys_at : (I : List ℕ) (places : List ℕ) → map node_key (map (node_entry_at I) places) ≡ map (key_at Nbt I) places
unfolding node_entry_at key_at
keys_at I [] = refl
keys_at I (at ∷ rest) = rw (keys_at I rest) refl

pub nodes_rise : (I places : List ℕ) (nodes : List NodeEntry) → nodes ≡ map (node_entry_at I) places → Rises 0 None (map (key_at Nbt I) places) → Rises 0 None (map node_key nodes)
nodes_rise I places nodes e r = rw (e, keys_at I places) r
