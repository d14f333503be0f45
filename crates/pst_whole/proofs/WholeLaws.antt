-- The laws of what is whole: of a store all of it, and of any file the nodes without fault, where the others are told.
use Rattle.std.proofs.Common.{◌≡◌, ℕ, zero, suc, ◌<◌, Bool, true, false, cond, List, [], ◌∷◌, ◌++◌, length, map, Option, Some, None, refl, sym, ap, ◌∙◌, ◌⊎◌, inl, inr, arith}
use Rattle.std.specs.Prelude.{◌&&◌, nat_eq, nat_lt, is_none, is_some, option_map}
use Rattle.std.specs.List.{Contains, slice_index_or}
use Rattle.std.proofs.Math.Path.{fun_ext}
use Rattle.pst_fault.specs.declared.fault.Fault.{Fault}
use Rattle.pst_fault.specs.Each.{if_there}
use Rattle.pst_fault.proofs.EachLemmas.{contains_here, contains_later}
use Rattle.pst_fault.proofs.FirstLemmas.{both_none}
use Rattle.pst_page.specs.declared.entry.NodeEntry.{NodeEntry}
use Rattle.pst_btree.specs.Entries.{node_key, node_with}
use Rattle.pst_btree.specs.Order.{Rises}
use Rattle.pst_btree.proofs.EntryLemmas.{contains_with}
use Rattle.pst_block.specs.Table.{Table}
use Rattle.pst_encoding.specs.declared.method.Method.{Method}
use Rattle.pst_plain.specs.Twin.{twin_of, with_method}
use Rattle.pst_remains.specs.declared.pages.Broken.{Broken}
use Rattle.pst_remains.specs.Decoded.{decoded_remains_of}
use Rattle.pst_remains.specs.Laws.{first_in, first_told}
use Rattle.pst_remains.specs.Pages.{faults_of, page_before}
use Rattle.pst_remains.specs.Remains.{RemainsParts, remains_of, block_tree_left, node_tree_left}
use Rattle.pst_remains.proofs.LawLemmas.{whole_law}
use Rattle.pst_remains.proofs.TwinLemmas.{decoded_whole_law}
use Rattle.pst_intact.specs.pst_msg.pst_mail.declared.nid.TheConstants.{STORE, ROOT}
use Rattle.pst_intact.proofs.pst_store.StoreLaws.{table_is, entries_are}
use Rattle.pst_damage.specs.declared.broken.BrokenNode.{BrokenNode}
use Rattle.pst_damage.specs.Damage.{damage_in, damage_of}
use Rattle.pst_damage.specs.Judged.{Judged, kept_node, told_node, sound_by, broken_by}
use Rattle.pst_damage.specs.Laws.{IsUntold}
use Rattle.pst_damage.specs.Nodes.{node_damage, missing, with_required, nodes_damage}
use Rattle.pst_damage.specs.Order.{put_in}
use Rattle.pst_damage.proofs.DamageLaws.{nothing_broken_law, decoded_nothing_law}
use Rattle.pst_whole.specs.Laws.{IsAllWhole, StoreWholeLaw, DecodedStoreLaw, SortedLaw}
use Rattle.pst_whole.specs.Lost.{LostParts, lost_of, nothing_lost, told_lost, own_lost, behind_lost}
use Rattle.pst_whole.specs.Nodes.{whole_nodes, broken_nodes}
use Rattle.pst_whole.proofs.LostLemmas.{told_there_is, with_by_test, none_with}
use Rattle.pst_whole.proofs.WholeLemmas.{found_sound, found_is_sound}

-- ---- where nothing is told

none_here : (part : Judged) (e : NodeEntry) (rest : List NodeEntry) → broken_by part (e ∷ rest) ≡ [] → (part e ≡ None) × (broken_by part rest ≡ [])
unfolding broken_by
none_here part e rest none = by_fault (part e) refl none
  where
    by_fault : (o : Option Fault) → part e ≡ o → told_node o e (broken_by part rest) ≡ [] → (part e ≡ None) × (broken_by part rest ≡ [])
    by_fault None is h = (is, h)
    by_fault (Some f) is h = absurd cc

all_sound : (part : Judged) (nodes : List NodeEntry) → broken_by part nodes ≡ [] → sound_by part nodes ≡ nodes
unfolding sound_by
all_sound part [] none = refl
all_sound part (e ∷ rest) none = let both = none_here part e rest none in rw both.0 (ap (λ (xs : List NodeEntry). e ∷ xs) (all_sound part rest both.1))

none_own : (part : Judged) (nid : ℕ) (nodes : List NodeEntry) → broken_by part nodes ≡ [] → if_there part (node_with nid nodes) ≡ None
none_own part nid [] none = ap (if_there part) (none_with nid)
none_own part nid (e ∷ rest) none =
    let both = none_here part e rest none in
    ap (if_there part) (with_by_test nid e rest (nat_eq e.nid nid) refl) ∙ by_test (nat_eq e.nid nid) both.0 (none_own part nid rest both.1)
  where
    by_test : (v : Bool) → part e ≡ None → if_there part (node_with nid rest) ≡ None → if_there part (cond v (Some e) (node_with nid rest)) ≡ None
    by_test true here more = here
    by_test false here more = more

no_page : (key : ℕ) → page_before [] key ≡ None
unfolding page_before
no_page key = refl

none_behind : (nodes : List NodeEntry) (nid : ℕ) → behind_lost nodes [] nid ≡ None
none_behind nodes nid = by_test (is_none (node_with nid nodes))
  where
    by_test : (v : Bool) → cond v (option_map (λ (p : Broken). p.fault) (page_before [] nid)) None ≡ None
    by_test true = rw (no_page nid) refl
    by_test false = refl

none_broken : (t : Table) (nodes : List NodeEntry) (broken : List Broken) → nodes_damage t nodes broken ≡ [] → broken_nodes t nodes broken ≡ []
none_broken t nodes broken none = sym (told_there_is t nodes broken [] [] (sym none) refl)

is_all : (t : Table) (nodes : List NodeEntry) (broken : List Broken) → nodes_damage t nodes broken ≡ [] → broken ≡ [] → (whole_nodes t nodes broken ≡ nodes) × (lost_of t nodes broken ≡ nothing_lost)
unfolding whole_nodes broken_nodes
is_all t nodes broken none pages =
    let told : broken_by (node_damage t nodes broken) nodes ≡ [] = none_broken t nodes broken none in
    let own : own_lost t nodes broken ≡ (λ _. None) = fun_ext (λ nid. none_own (node_damage t nodes broken) nid nodes told) in
    let behind : behind_lost nodes broken ≡ (λ _. None) = fun_ext (λ nid. rw pages (none_behind nodes nid)) in
    (all_sound (node_damage t nodes broken) nodes told, parts own behind)
  where
    made : (ℕ → Option Fault) → (ℕ → Option Fault) → LostParts
    made a b = record { own = a; behind = b }

    parts : own_lost t nodes broken ≡ (λ _. None) → behind_lost nodes broken ≡ (λ _. None) → lost_of t nodes broken ≡ nothing_lost
    parts a b = ap (λ x. made x (behind_lost nodes broken)) a ∙ ap (made (λ _. None)) b

-- ---- a store

no_pages : (xs : List Fault) (broken : List Broken) → xs ++ faults_of broken ≡ [] → broken ≡ []
no_pages [] [] e = refl
no_pages [] (b ∷ rest) e = absurd cc
no_pages (x ∷ xs) broken e = absurd cc

unbroken : (I : List ℕ) → (remains_of I).pages ≡ [] → (remains_of I).broken ≡ []
unfolding remains_of
unbroken I none = no_pages (faults_of (block_tree_left I).broken) (node_tree_left I).broken none

decoded_unbroken : (I : List ℕ) (method : Method) → (decoded_remains_of method I).pages ≡ [] → (decoded_remains_of method I).broken ≡ []
unfolding decoded_remains_of
decoded_unbroken I method none = unbroken (with_method 0 I) none

none_in : (xs : List Fault) → xs ≡ [] → first_in xs ≡ None
none_in xs is = rw is refl

none_told : (r : RemainsParts) → IsUntold (damage_in r) → first_told r ≡ None
unfolding damage_in
none_told r is =
    both_none r.header _ is.header
    (both_none (first_in r.pages) _ (none_in r.pages is.pages) (both_none (first_in r.blocks) _ (none_in r.blocks is.blocks) is.maps))

pages_of_untold : (r : RemainsParts) → IsUntold (damage_in r) → r.pages ≡ []
unfolding damage_in
pages_of_untold r is = is.pages

nodes_of_untold : (r : RemainsParts) → IsUntold (damage_in r) → nodes_damage r.table r.nodes r.broken ≡ []
unfolding damage_in
nodes_of_untold r is = is.nodes

all_whole : (r : RemainsParts) (t : Table) (nodes : List NodeEntry) → IsUntold (damage_in r) → r.broken ≡ [] → r.table ≡ t → r.nodes ≡ nodes → IsAllWhole r t nodes
all_whole r t nodes untold pages table entries =
    let all = is_all r.table r.nodes r.broken (nodes_of_untold r untold) pages in
    record { blocks = table; entries = all.0 ∙ entries; told = all.1 }

untold_in : (I : List ℕ) → IsUntold (damage_of I) → IsUntold (damage_in (remains_of I))
unfolding damage_of
untold_in I is = is

pub store_whole_law : StoreWholeLaw
store_whole_law I s is =
    let parts = (nothing_broken_law I s).0 is in
    let r = remains_of I in
    let untold = untold_in I parts.1 in
    let whole = whole_law I (none_told r untold) in
    rw parts.2 (all_whole r _ _ untold (unbroken I (pages_of_untold r untold)) (whole.0 ∙ sym (table_is I)) (whole.1 ∙ sym (entries_are I)))

pub decoded_store_law : DecodedStoreLaw
decoded_store_law I method s bytes encoded is =
    let parts = (decoded_nothing_law I method s bytes encoded).0 is in
    let r = decoded_remains_of method I in
    let whole = decoded_whole_law I method bytes encoded (none_told r parts.0) in
    rw parts.1 (all_whole r _ _ parts.0 (decoded_unbroken I method (pages_of_untold r parts.0)) (whole.0 ∙ sym (table_is (twin_of I))) (whole.1 ∙ sym (entries_are (twin_of I))))

-- ---- any file: the whole nodes

in_none : {X : Type 0} (x : X) → Contains [] x → ⊥
in_none x w = absurd (omega (arith, w.1))

in_more : {X : Type 0} (y : X) (rest : List X) (x : X) → Contains (y ∷ rest) x → (y ≡ x) ⊎ Contains rest x
in_more y rest x w = by_place w.0 w.1 w.2
  where
    by_place : (k : ℕ) → k < length (y ∷ rest) → slice_index_or (y ∷ rest) k x ≡ x → (y ≡ x) ⊎ Contains rest x
    by_place zero lt is = inl is
    by_place (suc k) lt is = inr (k, omega (arith, lt), is)

is_whole : (part : Judged) (nodes : List NodeEntry) (x : NodeEntry) → Contains (sound_by part nodes) x → Contains nodes x × (part x ≡ None)
unfolding sound_by
is_whole part [] x w = absurd (in_none x w)
is_whole part (e ∷ rest) x w = by_fault (part e) refl (λ v. is_whole part rest x v) w
  where
    later : Contains rest x × (part x ≡ None) → Contains (e ∷ rest) x × (part x ≡ None)
    later both = (contains_later e x rest both.0, both.1)

    by_fault : (o : Option Fault) → part e ≡ o → (Contains (sound_by part rest) x → Contains rest x × (part x ≡ None)) → Contains (kept_node o e (sound_by part rest)) x → Contains (e ∷ rest) x × (part x ≡ None)
    by_fault (Some f) is more v = later (more v)
    by_fault None is more v = elim (in_more e (sound_by part rest) x v) [
      | inl same ↦ rw (← same) (contains_here e rest, is)
      | inr behind ↦ later (more behind)
    ]

has_whole : (part : Judged) (nodes : List NodeEntry) (x : NodeEntry) → Contains nodes x → part x ≡ None → Contains (sound_by part nodes) x
unfolding sound_by
has_whole part [] x w none = absurd (in_none x w)
has_whole part (e ∷ rest) x w none = elim (in_more e rest x w) [
  | inl same ↦ here same
  | inr behind ↦ later (part e) (has_whole part rest x behind none)
]
  where
    here : e ≡ x → Contains (kept_node (part e) e (sound_by part rest)) x
    here same = rw (same, none) (contains_here x (sound_by part rest))

    later : (o : Option Fault) → Contains (sound_by part rest) x → Contains (kept_node o e (sound_by part rest)) x
    later None v = contains_later e x (sound_by part rest) v
    later (Some f) v = v

-- ---- those that are told

is_told : (part : Judged) (nodes : List NodeEntry) (b : BrokenNode) → Contains (broken_by part nodes) b → (e : NodeEntry) × Contains nodes e × (e.nid ≡ b.nid) × (part e ≡ Some b.fault)
unfolding broken_by
is_told part [] b w = absurd (in_none b w)
is_told part (e ∷ rest) b w = by_fault (part e) refl (λ v. is_told part rest b v) w
  where
    Found : List NodeEntry → Type 0
    Found xs = (x : NodeEntry) × Contains xs x × (x.nid ≡ b.nid) × (part x ≡ Some b.fault)

    later : Found rest → Found (e ∷ rest)
    later v = (v.0, contains_later e v.0 rest v.1, v.2, v.3)

    by_fault : (o : Option Fault) → part e ≡ o → (Contains (broken_by part rest) b → Found rest) → Contains (told_node o e (broken_by part rest)) b → Found (e ∷ rest)
    by_fault None is more v = later (more v)
    by_fault (Some f) is more v = elim (in_more (record { nid = e.nid; fault = f }) (broken_by part rest) b v) [
      | inl same ↦ (e, contains_here e rest, ap (λ (x : BrokenNode). x.nid) same, is ∙ ap (λ (x : BrokenNode). Some x.fault) same)
      | inr behind ↦ later (more behind)
    ]

in_put : (x : BrokenNode) (xs : List BrokenNode) (b : BrokenNode) → Contains (put_in x xs) b → (x ≡ b) ⊎ Contains xs b
in_put x [] b w = in_more x [] b w
in_put x (y ∷ ys) b w = by_place (nat_lt x.nid y.nid) (λ v. in_put x ys b v) w
  where
    later : (x ≡ b) ⊎ Contains ys b → (x ≡ b) ⊎ Contains (y ∷ ys) b
    later v = elim v [
      | inl same ↦ inl same
      | inr behind ↦ inr (contains_later y b ys behind)
    ]

    by_place : (v : Bool) → (Contains (put_in x ys) b → (x ≡ b) ⊎ Contains ys b) → Contains (cond v (x ∷ y ∷ ys) (y ∷ put_in x ys)) b → (x ≡ b) ⊎ Contains (y ∷ ys) b
    by_place true more v = in_more x (y ∷ ys) b v
    by_place false more v = elim (in_more y (put_in x ys) b v) [
      | inl same ↦ inr (rw (← same) (contains_here y ys))
      | inr behind ↦ later (more behind)
    ]

-- what is told is that a node is missing which is not there, or that one is broken which is
in_required : (nodes : List NodeEntry) (broken : List Broken) (nid : ℕ) (told : List BrokenNode) (b : BrokenNode) → Contains (with_required nodes broken nid told) b → (node_with b.nid nodes ≡ None) ⊎ Contains told b
in_required nodes broken nid told b w = by_found (node_with nid nodes) refl (is_none (page_before broken nid)) w
  where
    by_found : (o : Option NodeEntry) → node_with nid nodes ≡ o → (v : Bool) → Contains (cond (is_none o && v) (put_in (missing nid) told) told) b → (node_with b.nid nodes ≡ None) ⊎ Contains told b
    by_found (Some e) is v c = inr c
    by_found None is false c = inr c
    by_found None is true c = elim (in_put (missing nid) told b c) [
      | inl same ↦ inl (rw (← same) is)
      | inr there ↦ inr there
    ]

nothing_sought : (xs : List NodeEntry) → sound_by (λ _. None) xs ≡ xs
unfolding sound_by
nothing_sought [] = refl
nothing_sought (x ∷ xs) = ap (λ (ys : List NodeEntry). x ∷ ys) (nothing_sought xs)

module _ (t : Table) (nodes : List NodeEntry) (broken : List Broken) (rises : Rises 0 None (map node_key nodes)) where
  abbrev part : Judged
  part e = node_damage t nodes broken e

  in_all : (b : BrokenNode) → Contains (nodes_damage t nodes broken) b → (node_with b.nid nodes ≡ None) ⊎ Contains (broken_by part nodes) b
  unfolding nodes_damage
  in_all b w = elim (in_required nodes broken ROOT (with_required nodes broken STORE (broken_by part nodes)) b w) [
    | inl lacks ↦ inl lacks
    | inr there ↦ in_required nodes broken STORE (broken_by part nodes) b there
  ]

  there : (e : NodeEntry) → Contains nodes e → node_with e.nid nodes ≡ Some e
  there e w = contains_with node_key nodes 0 None e.nid e w.0 rises w.1 w.2 refl

  -- a node that is found among the whole ones is found among all
  found_all : (nid : ℕ) (x : NodeEntry) → node_with nid (sound_by part nodes) ≡ Some x → node_with nid nodes ≡ Some x
  found_all nid x found = ap (node_with nid) (sym (nothing_sought nodes)) ∙ found_sound part (λ _. None) nid 0 nodes x (λ e h. refl) rises found

  not_among : (nid : ℕ) → node_with nid nodes ≡ None → node_with nid (sound_by part nodes) ≡ None
  not_among nid lacks = by_found (node_with nid (sound_by part nodes)) refl
    where
      by_found : (o : Option NodeEntry) → node_with nid (sound_by part nodes) ≡ o → o ≡ None
      by_found None is = refl
      by_found (Some x) is = let found = found_all nid x is in absurd (let bad : None ≡ Some x = sym lacks ∙ found in cc)

  broken_lacks : (nid : ℕ) (e : NodeEntry) (f : Fault) → node_with nid nodes ≡ Some e → part e ≡ Some f → node_with nid (sound_by part nodes) ≡ None
  broken_lacks nid e f here is = by_found (node_with nid (sound_by part nodes)) refl
    where
      same : (a b : NodeEntry) → Some a ≡ Some b → a ≡ b
      same a b h = cc

      by_found : (o : Option NodeEntry) → node_with nid (sound_by part nodes) ≡ o → o ≡ None
      by_found None h = refl
      by_found (Some x) h =
          let one : e ≡ x = same e x (sym here ∙ found_all nid x h) in
          let none : part x ≡ None = (found_is_sound part nid nodes x h).0 in
          absurd (let bad : Some f ≡ None = sym is ∙ ap part one ∙ none in cc)

  told_there : (b : BrokenNode) → Contains (broken_by part nodes) b → (e : NodeEntry) × (node_with b.nid nodes ≡ Some e) × (part e ≡ Some b.fault)
  told_there b w = let found = is_told part nodes b w in (found.0, rw found.2 at (there found.0 found.1), found.3)

  lacks_broken : (b : BrokenNode) → Contains (nodes_damage t nodes broken) b → node_with b.nid (sound_by part nodes) ≡ None
  lacks_broken b w = elim (in_all b w) [
    | inl lacks ↦ not_among b.nid lacks
    | inr told ↦ let e = told_there b told in broken_lacks b.nid e.0 b.fault e.1 e.2
  ]

  own_told : (b : BrokenNode) → Contains (nodes_damage t nodes broken) b → is_some (node_with b.nid nodes) ≡ true → own_lost t nodes broken b.nid ≡ Some b.fault
  own_told b w is = elim (in_all b w) [
    | inl lacks ↦ absurd (let bad : false ≡ true = sym (ap is_some lacks) ∙ is in cc)
    | inr told ↦ let e = told_there b told in ap (if_there part) e.1 ∙ e.2
  ]

  nothing_told : (e : NodeEntry) → Contains (sound_by part nodes) e → told_lost (lost_of t nodes broken) e.nid ≡ None
  nothing_told e w =
      let both = is_whole part nodes e w in
      let here = there e both.0 in
      both_none (own_lost t nodes broken e.nid) (behind_lost nodes broken e.nid) (ap (if_there part) here ∙ both.1) (rw here refl)

  page_told : (nid : ℕ) (page : Broken) → node_with nid nodes ≡ None → page_before broken nid ≡ Some page → behind_lost nodes broken nid ≡ Some page.fault
  page_told nid page lacks is = rw (lacks, is) refl

pub sorted_law : SortedLaw
unfolding whole_nodes
sorted_law t nodes broken rises = record {
  whole = λ e w. is_whole (node_damage t nodes broken) nodes e w;
  all = λ e w none. has_whole (node_damage t nodes broken) nodes e w none;
  untold = λ e w. nothing_told t nodes broken rises e w;
  apart = λ b w. lacks_broken t nodes broken rises b w;
  told = λ b w is. own_told t nodes broken rises b w is;
  behind = λ nid page lacks is. page_told t nodes broken rises nid page lacks is;
}
