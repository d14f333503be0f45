-- The laws: what a check answers is the first of all that is told, and nothing is told exactly of a store.
use Rattle.std.proofs.Common.{◌≡◌, ℕ, ◌≤◌, Bool, true, false, cond, List, [], ◌∷◌, ◌++◌, length, map, Option, Some, None, refl, sym, ◌∙◌, arith}
use Rattle.std.specs.Prelude.{nat_eq, nat_le, is_some}
use Rattle.pst_bytes.specs.declared.span.Span.{Span}
use Rattle.pst_bytes.specs.Image.{num}
use Rattle.pst_fault.specs.declared.fault.Fault.{Fault}
use Rattle.pst_fault.specs.declared.kind.Kind.TheVariants.{Short, Magic, Version, Encoded, PagePlace}
use Rattle.pst_fault.specs.Fault.{fault_at, fault_in}
use Rattle.pst_fault.specs.First.{◌then◌, holds_or}
use Rattle.pst_fault.proofs.FirstLemmas.{none_then, both_none}
use Rattle.pst_header.specs.declared.header.Bref.{Bref}
use Rattle.pst_header.specs.Header.{header_fault, check_fault, root_fault, fields, end_of}
use Rattle.pst_header.specs.Place.{is_place}
use Rattle.pst_header.proofs.Head.{mapped_end}
use Rattle.pst_header.proofs.PlaceLemmas.{is_place_good}
use Rattle.pst_page.specs.declared.kind.PageKind.TheVariants.{Nbt}
use Rattle.pst_page.specs.declared.entry.NodeEntry.{NodeEntry}
use Rattle.pst_page.specs.Entry.{node_entry_at}
use Rattle.pst_page.specs.Fault.{page_place_fault}
use Rattle.pst_page.specs.Page.{page_span}
use Rattle.pst_btree.specs.Entries.{node_key}
use Rattle.pst_btree.specs.Order.{Rises}
use Rattle.pst_block.specs.Table.{Table}
use Rattle.pst_ndb.specs.Entries.{block_table, node_list}
use Rattle.pst_ndb.specs.Fault.{nodes_fault, file_fault, ndb_fault}
use Rattle.pst_ndb.specs.Space.{space_fault}
use Rattle.pst_remains.specs.declared.pages.Broken.{Broken}
use Rattle.pst_encoding.specs.declared.method.Method.{Method}
use Rattle.pst_plain.specs.Twin.{twin_of, with_method}
use Rattle.pst_remains.specs.Decoded.{decoded_remains_of}
use Rattle.pst_remains.specs.Header.{header_damage, has_maps, mended}
use Rattle.pst_remains.specs.Laws.{first_in, first_told}
use Rattle.pst_remains.specs.Pages.{leaf_entries, faults_of}
use Rattle.pst_remains.specs.Remains.{RemainsParts, remains_of, block_tree_left, node_tree_left}
use Rattle.pst_remains.proofs.HeaderLemmas.{mended_mapped}
use Rattle.pst_remains.proofs.LawLemmas.{first_law, whole_law}
use Rattle.pst_remains.proofs.LeafLemmas.{tree_keys_rise}
use Rattle.pst_remains.proofs.NodeLemmas.{nodes_rise}
use Rattle.pst_remains.proofs.TwinLemmas.{decoded_first, decoded_whole_law}
use Rattle.pst_remains.proofs.WalkLemmas.{tree_no_place}
use Rattle.pst_msg.specs.pst_names.declared.name_map.TheConstants.{NAME_MAP}
use Rattle.pst_msg.specs.pst_mail.declared.nid.TheConstants.{STORE, ROOT}
use Rattle.pst_msg.specs.Fault.{messaging_fault, required_fault}
use Rattle.pst_store.specs.Fault.{store_fault}
use Rattle.pst_store.specs.Grammar.{IsStore}
use Rattle.pst_store.specs.Values.{store_in}
use Rattle.pst_store.proofs.StoreLaws.{store_law}
use Rattle.pst_damage.specs.declared.broken.BrokenNode.{BrokenNode}
use Rattle.pst_damage.specs.Damage.{DamageParts, damage_in, damage_of}
use Rattle.pst_damage.specs.Laws.{profile_fault, first_own, fault_told, told_of_root, first_of_all, first_of_nodes, first_of_parts, FirstDamageLaw, IsUntold, NothingBrokenLaw, DecodedDamageLaw, DecodedNothingLaw}
use Rattle.pst_damage.proofs.NodeLaws.{first_of_nodes_is, none_told}

-- ---- the identifiers of the nodes that are left rise

no_room : (b : Bool) (span : Span) → is_place 17408 span ≡ b → 512 ≤ span.len → b ≡ false
no_room false span e le = refl
no_room true span e le = let p = is_place_good 17408 span e in absurd (omega (arith, p.mapped, p.inside))

no_place : (page : Bref) → page_place_fault 17408 page ≡ Some (fault_in PagePlace page.ib page.bid)
unfolding page_place_fault
no_place page = rw (no_room (is_place 17408 (page_span page.ib)) (page_span page.ib) refl (omega arith)) refl

left_rise : (I : List ℕ) (v : Bool) → has_maps I ≡ v → Rises 0 None (map node_key (map (node_entry_at I) (leaf_entries I (node_tree_left I).leaves)))
unfolding node_tree_left
left_rise I true maps =
    nodes_rise I (leaf_entries I (node_tree_left I).leaves) _ refl (rw maps (tree_keys_rise Nbt I (end_of (mended I)) (block_tree_left I).claimed (fields I).nbt (mapped_end I (mended I) (mended_mapped I maps))))
left_rise I false maps = rw (maps, tree_no_place Nbt I 17408 (block_tree_left I).claimed (fields I).nbt _ (no_place (fields I).nbt)) tt

remains_rise : (I : List ℕ) → Rises 0 None (map node_key (remains_of I).nodes)
unfolding remains_of
remains_rise I = left_rise I (has_maps I) refl

-- ---- where nothing is told up to the nodes, no page of the node B-tree is broken

none_first : (xs : List Fault) → first_in xs ≡ None → xs ≡ []
none_first [] e = refl
none_first (x ∷ xs) e = cc

no_broken : (xs : List Fault) (broken : List Broken) → xs ++ faults_of broken ≡ [] → broken ≡ []
no_broken [] [] e = refl
no_broken [] (b ∷ rest) e = cc
no_broken (x ∷ xs) broken e = cc

none_broken : (I : List ℕ) → first_told (remains_of I) ≡ None → (remains_of I).broken ≡ []
unfolding remains_of
none_broken I none =
    let r = remains_of I in
    let rest = none_then r.header (first_in r.pages then first_in r.blocks then r.maps) none in
    let pages = none_then (first_in r.pages) (first_in r.blocks then r.maps) rest.1 in
    no_broken (faults_of (block_tree_left I).broken) (node_tree_left I).broken (none_first r.pages pages.0)

-- ---- the front of a header, and the rest of it

header_parts : (I : List ℕ) → header_fault I ≡ (profile_fault I then header_damage I)
unfolding header_fault header_damage
header_parts I =
    five (holds_or (nat_le 564 (length I)) (fault_at Short 0)) (holds_or (nat_eq (num I 0 4) 0x4e444221) (fault_at Magic 0)) (holds_or (nat_eq (num I 8 2) 0x4d53) (fault_at Magic 8))
    (holds_or (nat_eq (num I 10 2) 23) (fault_at (Version (num I 10 2)) 10)) (holds_or (nat_eq (num I 513 1) 0) (fault_at (Encoded (num I 513 1)) 513)) (check_fault I then root_fault I)
  where
    five : (a b c d e x : Option Fault) → (a then b then c then d then e then x) ≡ ((a then b then c then d then e) then x)
    five (Some f) b c d e x = refl
    five None (Some f) c d e x = refl
    five None None (Some f) d e x = refl
    five None None None (Some f) e x = refl
    five None None None None (Some f) x = refl
    five None None None None None x = refl

-- ---- what a check answers

-- of nodes that are left, where nothing is told before them
nodes_told : (r : RemainsParts) (t : Table) (nodes : List NodeEntry) → Rises 0 None (map node_key r.nodes) → r.broken ≡ [] → (r.table ≡ t) × (r.nodes ≡ nodes)
    → first_of_nodes r.table r.nodes (damage_in r).nodes ≡ (nodes_fault t nodes then messaging_fault t nodes)
unfolding damage_in
nodes_told r t nodes rises broken whole =
    let same : Rises 0 None (map node_key nodes) = rw whole.1 at rises in
    rw (whole.0, whole.1, broken) (first_of_nodes_is t nodes same)

joined : (front head space own rest told x : Option Fault) → told ≡ (head then space) → (told ≡ None → x ≡ (own then rest)) → ((((front then head) then space then own) then rest) ≡ (front then told then x))
joined (Some f) head space own rest told x is later = refl
joined None (Some f) space own rest told x is later = rw is refl
joined None None (Some f) own rest told x is later = rw is refl
joined None None None own rest told x is later = rw is (sym (later is))

parts_are : (r : RemainsParts) (x : Option Fault) → ((r.header then first_in r.pages then first_in r.blocks then r.maps) then x) ≡ (r.header then first_in r.pages then first_in r.blocks then r.maps then x)
parts_are r x = four r.header (first_in r.pages) (first_in r.blocks) r.maps x
  where
    four : (a b c d x : Option Fault) → ((a then b then c then d) then x) ≡ (a then b then c then d then x)
    four (Some f) b c d x = refl
    four None (Some f) c d x = refl
    four None None (Some f) d x = refl
    four None None None d x = refl

parts_told : (r : RemainsParts) → first_of_parts r (damage_in r) ≡ (first_told r then first_of_nodes r.table r.nodes (damage_in r).nodes)
unfolding damage_in
parts_told r = sym (parts_are r _)

pub first_damage_law : FirstDamageLaw
unfolding store_fault ndb_fault file_fault damage_of
first_damage_law I =
    let t = block_table I (fields I) in
    let nodes = node_list I (fields I) in
    let r = remains_of I in
    rw (header_parts I, parts_told r)
    (joined (profile_fault I) (header_damage I) (space_fault I (fields I)) (nodes_fault t nodes) (messaging_fault t nodes) (first_told r) (first_of_nodes r.table r.nodes (damage_in r).nodes) (first_law I)
    (λ none. nodes_told r t nodes (remains_rise I) (none_broken I none) (whole_law I none)))

-- ---- a store

none_of_all : (xs : List BrokenNode) → first_of_all xs ≡ None → xs ≡ []
none_of_all [] e = refl
none_of_all (b ∷ rest) e = cc

untold : (r : RemainsParts) (d : DamageParts) → first_of_parts r d ≡ None → IsUntold d
untold r d none =
    let x = first_of_nodes r.table r.nodes d.nodes in
    let a = none_then d.header (first_in d.pages then first_in d.blocks then d.maps then x) none in
    let b = none_then (first_in d.pages) (first_in d.blocks then d.maps then x) a.1 in
    let c = none_then (first_in d.blocks) (d.maps then x) b.1 in
    let e = none_then d.maps x c.1 in
    let last = first_of_all d.nodes in
    let names = fault_told NAME_MAP d.nodes in
    let root = told_of_root r.table r.nodes d.nodes in
    let own = none_then (first_own r.table r.nodes d.nodes) (fault_told STORE d.nodes then root then names then last) e.1 in
    let f = none_then (fault_told STORE d.nodes) (root then names then last) own.1 in
    let g = none_then root (names then last) f.1 in
    let h = none_then names last g.1 in
    record { header = a.0; pages = none_first d.pages b.0; blocks = none_first d.blocks c.0; maps = e.0; nodes = none_of_all d.nodes h.1 }

abbrev no_fault : Option Fault
no_fault = None

none_of_nodes : (t : Table) (nodes : List NodeEntry) → first_of_nodes t nodes [] ≡ None
none_of_nodes t nodes = rw (none_told STORE, none_told ROOT, none_told NAME_MAP) (neither (is_some (required_fault t nodes ROOT)))
  where
    neither : (v : Bool) → (cond v no_fault no_fault then no_fault) ≡ None
    neither true = refl
    neither false = refl

nothing_told : (r : RemainsParts) (d : DamageParts) → IsUntold d → first_of_parts r d ≡ None
nothing_told r d is = rw (is.header, is.pages, is.blocks, is.maps, is.nodes) (none_of_nodes r.table r.nodes)

pub nothing_broken_law : NothingBrokenLaw
nothing_broken_law I s = (to, from)
  where
    to : IsStore I s → (profile_fault I ≡ None) × IsUntold (damage_of I) × (s ≡ store_in I)
    to is =
        let both = (store_law I s).0 is in
        let parts = none_then (profile_fault I) (first_of_parts (remains_of I) (damage_of I)) (sym (first_damage_law I) ∙ both.0) in
        (parts.0, untold (remains_of I) (damage_of I) parts.1, both.1)

    from : (profile_fault I ≡ None) × IsUntold (damage_of I) × (s ≡ store_in I) → IsStore I s
    from w = (store_law I s).1 (first_damage_law I ∙ both_none (profile_fault I) (first_of_parts (remains_of I) (damage_of I)) w.0 (nothing_told (remains_of I) (damage_of I) w.1), w.2)

-- ---- an encoded file, its blocks decoded

decoded_rise : (I : List ℕ) (method : Method) → Rises 0 None (map node_key (decoded_remains_of method I).nodes)
unfolding decoded_remains_of
decoded_rise I method = remains_rise (with_method 0 I)

decoded_unbroken : (I : List ℕ) (method : Method) → first_told (decoded_remains_of method I) ≡ None → (decoded_remains_of method I).broken ≡ []
unfolding decoded_remains_of
decoded_unbroken I method none = none_broken (with_method 0 I) none

pub decoded_damage_law : DecodedDamageLaw
unfolding store_fault ndb_fault file_fault
decoded_damage_law I method all is =
    let T = twin_of I in
    let t = block_table T (fields T) in
    let nodes = node_list T (fields T) in
    let r = decoded_remains_of method I in
    rw (parts_told r)
    (joined None (header_fault T) (space_fault T (fields T)) (nodes_fault t nodes) (messaging_fault t nodes) (first_told r) (first_of_nodes r.table r.nodes (damage_in r).nodes) (decoded_first I method all is)
    (λ none. nodes_told r t nodes (decoded_rise I method) (decoded_unbroken I method none) (decoded_whole_law I method all is none)))

pub decoded_nothing_law : DecodedNothingLaw
decoded_nothing_law I method s all is = (to, from)
  where
    to : IsStore (twin_of I) s → IsUntold (damage_in (decoded_remains_of method I)) × (s ≡ store_in (twin_of I))
    to store =
        let both = (store_law (twin_of I) s).0 store in
        (untold (decoded_remains_of method I) (damage_in (decoded_remains_of method I)) (sym (decoded_damage_law I method all is) ∙ both.0), both.1)

    from : IsUntold (damage_in (decoded_remains_of method I)) × (s ≡ store_in (twin_of I)) → IsStore (twin_of I) s
    from w = (store_law (twin_of I) s).1 (decoded_damage_law I method all is ∙ nothing_told (decoded_remains_of method I) (damage_in (decoded_remains_of method I)) w.0, w.1)
