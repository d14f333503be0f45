-- What a check answers of the nodes of a file without fault up to them is the first of what is told of them.
use Rattle.std.proofs.Common.{◌≡◌, ℕ, ◌+◌, ◌<◌, Bool, true, false, cond, ◌&&◌, List, [], ◌∷◌, map, Option, Some, None, refl, sym, ap, ◌∙◌, arith}
use Rattle.std.specs.Prelude.{nat_eq, nat_lt, is_none, is_some, option_map}
use Rattle.std.specs.List.{Contains}
use Rattle.std.proofs.lemmas.Bool.Decides.{nat_tests}
use Rattle.pst_fault.specs.declared.fault.Fault.{Fault}
use Rattle.pst_fault.specs.declared.kind.Kind.TheVariants.{NodeMissing}
use Rattle.pst_fault.specs.Each.{first_of, if_there, there_or}
use Rattle.pst_fault.specs.First.{◌then◌}
use Rattle.pst_fault.proofs.EachLemmas.{first_of_same, contains_here, contains_later}
use Rattle.pst_fault.proofs.FirstLemmas.{then_none, then_some, none_then}
use Rattle.pst_page.specs.declared.entry.NodeEntry.{NodeEntry}
use Rattle.pst_btree.specs.Entries.{first_with, node_key, node_with}
use Rattle.pst_btree.specs.Order.{Rises}
use Rattle.pst_btree.proofs.EntryLemmas.{contains_with}
use Rattle.pst_block.specs.Table.{Table}
use Rattle.pst_ndb.specs.Fault.{node_fault, nodes_fault}
use Rattle.pst_ndb.specs.Roots.{Roots, entry_roots, node_in, all_roots}
use Rattle.pst_remains.specs.declared.pages.Broken.{Broken}
use Rattle.pst_remains.specs.Pages.{page_before}
use Rattle.pst_msg.specs.pst_pc.Fault.{pc_fault}
use Rattle.pst_tc.specs.Fault.{tc_fault}
use Rattle.pst_tc.specs.Values.{RowParts, tc_rows}
use Rattle.pst_msg.specs.pst_names.declared.name_map.TheConstants.{NAME_MAP}
use Rattle.pst_msg.specs.pst_mail.declared.items.Items.{Items}
use Rattle.pst_msg.specs.pst_mail.declared.items.Items.TheVariants.{Subfolders, Messages, Associated}
use Rattle.pst_msg.specs.pst_mail.declared.nid.TheConstants.{STORE, ROOT, FOLDER, SEARCH_FOLDER}
use Rattle.pst_msg.specs.Fault.{listed_item_fault, items_fault, table_fault, folder_fault, message_fault, name_map_fault, required_fault, typed_node_fault, messaging_fault}
use Rattle.pst_msg.specs.Nid.{is_type, named}
use Rattle.pst_msg.specs.Values.{is_message, listing_of}
use Rattle.pst_damage.specs.declared.broken.BrokenNode.{BrokenNode}
use Rattle.pst_damage.specs.Folder.{row_damage, items_damage, table_damage, folder_damage, asked_damage}
use Rattle.pst_damage.specs.Judged.{Judged, told_node, sound_by, broken_by}
use Rattle.pst_damage.specs.Laws.{fault_told, has_own, first_own, told_of_root, first_of_all, first_of_nodes}
use Rattle.pst_damage.specs.Nodes.{node_damage, missing, with_required, nodes_damage}
use Rattle.pst_damage.specs.Order.{put_in}

-- ---- where no page is broken, and no node's own trees are

no_page : (key : ℕ) → page_before [] key ≡ None
unfolding page_before
no_page key = refl

and_false : (v : Bool) → (v && false) ≡ false
and_false true = refl
and_false false = refl

and_true : (v : Bool) → (v && true) ≡ v
and_true true = refl
and_true false = refl

same_row : (nodes : List NodeEntry) (items : Items) (bid : ℕ) (x : RowParts) → row_damage nodes [] items bid x ≡ listed_item_fault nodes items bid x
unfolding row_damage
same_row nodes items bid x = rw (no_page x.id, and_false (is_none (node_with x.id nodes))) refl

all_sound : (part : Judged) (nodes : List NodeEntry) → first_of part nodes ≡ None → sound_by part nodes ≡ nodes
unfolding sound_by first_of
all_sound part [] none = refl
all_sound part (e ∷ rest) none =
    let both = none_then (part e) (first_of part rest) none in
    rw both.0 (ap (λ (xs : List NodeEntry). e ∷ xs) (all_sound part rest both.1))

same_items : (t : Table) (nodes : List NodeEntry) (items : Items) (r : Roots) → items_damage t nodes [] items r ≡ items_fault t nodes items r
unfolding items_damage items_fault
same_items t nodes items r =
    ap (λ (o : Option Fault). tc_fault t r then o) (first_of_same (row_damage nodes [] items r.bid_data) (listed_item_fault nodes items r.bid_data) (λ x. same_row nodes items r.bid_data x) (tc_rows t r))

same_there : (f g : Roots → Option Fault) → ((r : Roots) → f r ≡ g r) → (o : Option Roots) → if_there f o ≡ if_there g o
same_there f g same None = refl
same_there f g same (Some r) = same r

same_table : (t : Table) (nodes : List NodeEntry) (items : Items) (nid : ℕ) → nodes_fault t nodes ≡ None → table_damage t nodes [] items nid ≡ table_fault t nodes items nid
unfolding table_damage table_fault
same_table t nodes items nid none =
    rw (all_sound (node_fault t) nodes none) (same_there (items_damage t nodes [] items) (items_fault t nodes items) (λ r. same_items t nodes items r) (listing_of nodes items nid))

same_folder : (t : Table) (nodes : List NodeEntry) (r : Roots) → nodes_fault t nodes ≡ None → folder_damage t nodes [] r ≡ folder_fault t nodes r
unfolding folder_damage folder_fault
same_folder t nodes r none = rw (same_table t nodes Subfolders r.top none, same_table t nodes Messages r.top none, same_table t nodes Associated r.top none) refl

-- ---- nodes among all nodes

-- each of some nodes is found among all
abbrev AreFound : List NodeEntry → List NodeEntry → Type 0
AreFound nodes some = (e : NodeEntry) → Contains some e → node_with e.nid nodes ≡ Some e

all_found : (nodes : List NodeEntry) → Rises 0 None (map node_key nodes) → AreFound nodes nodes
all_found nodes r e w = contains_with node_key nodes 0 None e.nid e w.0 r w.1 w.2 refl

found_rest : (nodes rest : List NodeEntry) (e : NodeEntry) → AreFound nodes (e ∷ rest) → AreFound nodes rest
found_rest nodes rest e all x w = all x (contains_later e x rest w)

found_here : (nodes rest : List NodeEntry) (e : NodeEntry) → AreFound nodes (e ∷ rest) → node_with e.nid nodes ≡ Some e
found_here nodes rest e all = all e (contains_here e rest)

-- ---- the first whose own trees have a fault

own_by : (t : Table) (nodes : List NodeEntry) (b : BrokenNode) (rest : List BrokenNode) (v : Bool) → has_own t nodes b.nid ≡ v → first_own t nodes (b ∷ rest) ≡ cond v (Some b.fault) (first_own t nodes rest)
own_by t nodes b rest v e = rw e refl

own_of_told : (t : Table) (nodes some : List NodeEntry) (part : Judged) → ((e : NodeEntry) (f : Fault) → node_fault t e ≡ Some f → part e ≡ Some f) → AreFound nodes some
    → first_own t nodes (broken_by part some) ≡ first_of (node_fault t) some
unfolding broken_by first_of
own_of_told t nodes [] part first all = refl
own_of_told t nodes (e ∷ rest) part first all = by_own (node_fault t e) refl (part e) refl (own_of_told t nodes rest part first (found_rest nodes rest e all))
  where
    by_own : (o : Option Fault) → node_fault t e ≡ o → (p : Option Fault) → part e ≡ p → first_own t nodes (broken_by part rest) ≡ first_of (node_fault t) rest
        → first_own t nodes (told_node p e (broken_by part rest)) ≡ (o then first_of (node_fault t) rest)
    by_own (Some f) own None is more = absurd (no (sym is ∙ first e f own))
      where
        no : None ≡ Some f → ⊥
        no e = cc
    by_own (Some f) own (Some g) is more =
        let same : g ≡ f = some_same (sym is ∙ first e f own) in
        own_by t nodes (record { nid = e.nid; fault = g }) (broken_by part rest) true (rw (found_here nodes rest e all, own) refl) ∙ ap (λ (x : Fault). Some x) same
      where
        some_same : Some g ≡ Some f → g ≡ f
        some_same e = cc
    by_own None own None is more = more
    by_own None own (Some g) is more = own_by t nodes (record { nid = e.nid; fault = g }) (broken_by part rest) false (rw (found_here nodes rest e all, own) refl) ∙ more

own_of_put : (t : Table) (nodes : List NodeEntry) (b : BrokenNode) (xs : List BrokenNode) → has_own t nodes b.nid ≡ false → first_own t nodes (put_in b xs) ≡ first_own t nodes xs
own_of_put t nodes b [] other = own_by t nodes b [] false other
own_of_put t nodes b (x ∷ xs) other = by_place (nat_lt b.nid x.nid) (own_of_put t nodes b xs other)
  where
    by_place : (v : Bool) → first_own t nodes (put_in b xs) ≡ first_own t nodes xs → first_own t nodes (cond v (b ∷ x ∷ xs) (x ∷ put_in b xs)) ≡ first_own t nodes (x ∷ xs)
    by_place true more = own_by t nodes b (x ∷ xs) false other
    by_place false more = ap (λ (o : Option Fault). cond (has_own t nodes x.nid) (Some x.fault) o) more

-- a node that has to be there
required_by : (nodes : List NodeEntry) (nid : ℕ) (told : List BrokenNode) (o : Option NodeEntry) → node_with nid nodes ≡ o → with_required nodes [] nid told ≡ cond (is_none o) (put_in (missing nid) told) told
required_by nodes nid told o e = rw (e, no_page nid, and_true (is_none o)) refl

own_of_required : (t : Table) (nodes : List NodeEntry) (nid : ℕ) (told : List BrokenNode) → first_own t nodes (with_required nodes [] nid told) ≡ first_own t nodes told
own_of_required t nodes nid told = by_found (node_with nid nodes) refl
  where
    by_found : (o : Option NodeEntry) → node_with nid nodes ≡ o → first_own t nodes (with_required nodes [] nid told) ≡ first_own t nodes told
    by_found None e = ap (first_own t nodes) (required_by nodes nid told None e) ∙ own_of_put t nodes (missing nid) told (rw e refl)
    by_found (Some x) e = ap (first_own t nodes) (required_by nodes nid told (Some x) e)

own_first : (t : Table) (nodes : List NodeEntry) (broken : List Broken) (e : NodeEntry) (f : Fault) → node_fault t e ≡ Some f → node_damage t nodes broken e ≡ Some f
unfolding node_damage
own_first t nodes broken e f own = then_some (node_fault t e) (asked_damage t nodes broken (entry_roots e)) f own

pub first_own_is : (t : Table) (nodes : List NodeEntry) → Rises 0 None (map node_key nodes) → first_own t nodes (nodes_damage t nodes []) ≡ nodes_fault t nodes
unfolding nodes_damage
first_own_is t nodes r =
    let told = broken_by (node_damage t nodes []) nodes in
    own_of_required t nodes ROOT (with_required nodes [] STORE told) ∙ own_of_required t nodes STORE told ∙ own_of_told t nodes nodes (node_damage t nodes []) (own_first t nodes []) (all_found nodes r)

-- ---- what is told of a node

told_by_test : (nid : ℕ) (b : BrokenNode) (rest : List BrokenNode) (v : Bool) → nat_eq b.nid nid ≡ v → fault_told nid (b ∷ rest) ≡ cond v (Some b.fault) (fault_told nid rest)
unfolding first_with
told_by_test nid b rest true e = rw e refl
told_by_test nid b rest false e = rw e refl

pub none_told : (nid : ℕ) → fault_told nid [] ≡ None
unfolding first_with
none_told nid = refl

told_behind : (part : Judged) (nid low : ℕ) (nodes : List NodeEntry) → nid < low → Rises low None (map node_key nodes) → fault_told nid (broken_by part nodes) ≡ None
unfolding broken_by
told_behind part nid low [] lt r = none_told nid
told_behind part nid low (e ∷ rest) lt r = by_fault (part e) (told_behind part nid (e.nid + 1) rest (omega (arith, lt, r.0)) r.2)
  where
    by_fault : (o : Option Fault) → fault_told nid (broken_by part rest) ≡ None → fault_told nid (told_node o e (broken_by part rest)) ≡ None
    by_fault None more = more
    by_fault (Some f) more =
        told_by_test nid (record { nid = e.nid; fault = f }) (broken_by part rest) false (other e.nid nid (omega (arith, lt, r.0))) ∙ more
      where
        other : (a b : ℕ) → b < a → nat_eq a b ≡ false
        other a b lt = grind (arith, nat_tests, lt)

pub with_by_test : (nid : ℕ) (e : NodeEntry) (rest : List NodeEntry) (v : Bool) → nat_eq e.nid nid ≡ v → node_with nid (e ∷ rest) ≡ cond v (Some e) (node_with nid rest)
unfolding first_with
with_by_test nid e rest true h = rw h refl
with_by_test nid e rest false h = rw h refl

pub none_with : (nid : ℕ) → node_with nid [] ≡ None
unfolding first_with
none_with nid = refl

pub told_among : (part : Judged) (nid low : ℕ) (nodes : List NodeEntry) → Rises low None (map node_key nodes) → fault_told nid (broken_by part nodes) ≡ if_there part (node_with nid nodes)
unfolding broken_by
told_among part nid low [] r = none_told nid ∙ ap (if_there part) (sym (none_with nid))
told_among part nid low (e ∷ rest) r = by_test (nat_eq e.nid nid) refl (part e) refl (told_among part nid (e.nid + 1) rest r.2)
  where
    by_test : (v : Bool) → nat_eq e.nid nid ≡ v → (o : Option Fault) → part e ≡ o → fault_told nid (broken_by part rest) ≡ if_there part (node_with nid rest)
        → fault_told nid (told_node o e (broken_by part rest)) ≡ if_there part (node_with nid (e ∷ rest))
    by_test true h None is more =
        let same : e.nid ≡ nid = grind (arith, nat_tests, h) in
        told_behind part nid (e.nid + 1) rest (omega (arith, same)) r.2 ∙ sym is ∙ ap (if_there part) (sym (with_by_test nid e rest true h))
    by_test true h (Some f) is more = told_by_test nid (record { nid = e.nid; fault = f }) (broken_by part rest) true h ∙ sym is ∙ ap (if_there part) (sym (with_by_test nid e rest true h))
    by_test false h None is more = more ∙ ap (if_there part) (sym (with_by_test nid e rest false h))
    by_test false h (Some f) is more = told_by_test nid (record { nid = e.nid; fault = f }) (broken_by part rest) false h ∙ more ∙ ap (if_there part) (sym (with_by_test nid e rest false h))

told_of_other : (nid : ℕ) (b : BrokenNode) (xs : List BrokenNode) → nat_eq b.nid nid ≡ false → fault_told nid (put_in b xs) ≡ fault_told nid xs
told_of_other nid b [] other = told_by_test nid b [] false other
told_of_other nid b (x ∷ xs) other = by_place (nat_lt b.nid x.nid) (told_of_other nid b xs other)
  where
    by_place : (v : Bool) → fault_told nid (put_in b xs) ≡ fault_told nid xs → fault_told nid (cond v (b ∷ x ∷ xs) (x ∷ put_in b xs)) ≡ fault_told nid (x ∷ xs)
    by_place true more = told_by_test nid b (x ∷ xs) false other
    by_place false more = told_by_test nid x (put_in b xs) (nat_eq x.nid nid) refl ∙ ap (λ (o : Option Fault). cond (nat_eq x.nid nid) (Some x.fault) o) more ∙ sym (told_by_test nid x xs (nat_eq x.nid nid) refl)

told_of_put : (nid : ℕ) (b : BrokenNode) (xs : List BrokenNode) → nat_eq b.nid nid ≡ true → fault_told nid xs ≡ None → fault_told nid (put_in b xs) ≡ Some b.fault
told_of_put nid b [] same none = told_by_test nid b [] true same
told_of_put nid b (x ∷ xs) same none = by_test (nat_eq x.nid nid) refl (sym (told_by_test nid x xs (nat_eq x.nid nid) refl) ∙ none) (told_of_put nid b xs same)
  where
    by_test : (w : Bool) → nat_eq x.nid nid ≡ w → cond w (Some x.fault) (fault_told nid xs) ≡ None → (fault_told nid xs ≡ None → fault_told nid (put_in b xs) ≡ Some b.fault) → fault_told nid (put_in b (x ∷ xs)) ≡ Some b.fault
    by_test true h e more = absurd cc
    by_test false h e more = by_place (nat_lt b.nid x.nid) (more e)
      where
        by_place : (v : Bool) → fault_told nid (put_in b xs) ≡ Some b.fault → fault_told nid (cond v (b ∷ x ∷ xs) (x ∷ put_in b xs)) ≡ Some b.fault
        by_place true later = told_by_test nid b (x ∷ xs) true same
        by_place false later = told_by_test nid x (put_in b xs) false h ∙ later

-- ---- what is told of the nodes that are asked for by their identifiers

required_there : (nodes : List NodeEntry) (nid : ℕ) (told : List BrokenNode) (e : NodeEntry) → node_with nid nodes ≡ Some e → with_required nodes [] nid told ≡ told
required_there nodes nid told e found = required_by nodes nid told (Some e) found

required_lacks : (nodes : List NodeEntry) (nid : ℕ) (told : List BrokenNode) → node_with nid nodes ≡ None → with_required nodes [] nid told ≡ put_in (missing nid) told
required_lacks nodes nid told lacks = required_by nodes nid told None lacks

passes_required : (nodes : List NodeEntry) (nid other : ℕ) (told : List BrokenNode) → nat_eq other nid ≡ false → fault_told nid (with_required nodes [] other told) ≡ fault_told nid told
passes_required nodes nid other told differ = by_found (node_with other nodes) refl
  where
    by_found : (o : Option NodeEntry) → node_with other nodes ≡ o → fault_told nid (with_required nodes [] other told) ≡ fault_told nid told
    by_found None e = ap (fault_told nid) (required_lacks nodes other told e) ∙ told_of_other nid (missing other) told differ
    by_found (Some x) e = ap (fault_told nid) (required_there nodes other told x e)

pub same_nid : (nid : ℕ) → nat_eq nid nid ≡ true
same_nid nid = grind (arith, nat_tests)

-- what is told of a node that has to be there
told_required : (part : Judged) (nodes : List NodeEntry) (nid : ℕ) (told : List BrokenNode) → fault_told nid told ≡ if_there part (node_with nid nodes)
    → fault_told nid (with_required nodes [] nid told) ≡ there_or (named NodeMissing 0 0 nid) part (node_with nid nodes)
told_required part nodes nid told is = by_found (node_with nid nodes) refl
  where
    by_found : (o : Option NodeEntry) → node_with nid nodes ≡ o → fault_told nid (with_required nodes [] nid told) ≡ there_or (named NodeMissing 0 0 nid) part o
    by_found None e = ap (fault_told nid) (required_lacks nodes nid told e) ∙ told_of_put nid (missing nid) told (same_nid nid) (is ∙ ap (if_there part) e)
    by_found (Some x) e = ap (fault_told nid) (required_there nodes nid told x e) ∙ is ∙ ap (if_there part) e

-- ---- what is asked of a node whose own trees have no fault

found_nid : (nid : ℕ) (nodes : List NodeEntry) (e : NodeEntry) → node_with nid nodes ≡ Some e → e.nid ≡ nid
found_nid nid [] e found = absurd (lacks (sym (none_with nid) ∙ found))
  where
    lacks : None ≡ Some e → ⊥
    lacks e = cc
found_nid nid (x ∷ rest) e found = by_test (nat_eq x.nid nid) refl (sym (with_by_test nid x rest (nat_eq x.nid nid) refl) ∙ found) (found_nid nid rest e)
  where
    by_test : (v : Bool) → nat_eq x.nid nid ≡ v → cond v (Some x) (node_with nid rest) ≡ Some e → (node_with nid rest ≡ Some e → e.nid ≡ nid) → e.nid ≡ nid
    by_test true h is later = let same : x ≡ e = cc in let at : x.nid ≡ nid = grind (arith, nat_tests, h) in ap (λ (y : NodeEntry). y.nid) (sym same) ∙ at
    by_test false h is later = later is

pub none_of_found : (part : Judged) (nid : ℕ) (nodes : List NodeEntry) (e : NodeEntry) → first_of part nodes ≡ None → node_with nid nodes ≡ Some e → part e ≡ None
unfolding first_of
none_of_found part nid [] e none found = absurd (lacks (sym (none_with nid) ∙ found))
  where
    lacks : None ≡ Some e → ⊥
    lacks e = cc
none_of_found part nid (x ∷ rest) e none found =
    let both = none_then (part x) (first_of part rest) none in
    by_test (nat_eq x.nid nid) (sym (with_by_test nid x rest (nat_eq x.nid nid) refl) ∙ found) both.0 (none_of_found part nid rest e both.1)
  where
    by_test : (v : Bool) → cond v (Some x) (node_with nid rest) ≡ Some e → part x ≡ None → (node_with nid rest ≡ Some e → part e ≡ None) → part e ≡ None
    by_test true is here later = let same : x ≡ e = cc in ap part (sym same) ∙ here
    by_test false is here later = later is

asked_only : (t : Table) (nodes : List NodeEntry) (e : NodeEntry) → node_fault t e ≡ None → node_damage t nodes [] e ≡ asked_damage t nodes [] (entry_roots e)
unfolding node_damage
asked_only t nodes e none = then_none (node_fault t e) (asked_damage t nodes [] (entry_roots e)) none

store_asked : (t : Table) (nodes : List NodeEntry) (r : Roots) → r.top ≡ STORE → asked_damage t nodes [] r ≡ pc_fault t r
unfolding asked_damage
store_asked t nodes r is = rw is refl

names_asked : (t : Table) (nodes : List NodeEntry) (r : Roots) → r.top ≡ NAME_MAP → asked_damage t nodes [] r ≡ name_map_fault t r
unfolding asked_damage
names_asked t nodes r is = rw is refl

folder_asked : (t : Table) (nodes : List NodeEntry) (r : Roots) → nat_eq r.top STORE ≡ false → nat_eq r.top NAME_MAP ≡ false → is_type FOLDER r.top ≡ true → asked_damage t nodes [] r ≡ folder_damage t nodes [] r
unfolding asked_damage
folder_asked t nodes r a b c = rw (a, b, c) refl

folder_first : (t : Table) (nodes : List NodeEntry) (r : Roots) (f : Fault) → pc_fault t r ≡ Some f → folder_damage t nodes [] r ≡ Some f
unfolding folder_damage
folder_first t nodes r f some =
    then_some (pc_fault t r) (table_damage t nodes [] Subfolders r.top then table_damage t nodes [] Messages r.top then table_damage t nodes [] Associated r.top) f some

root_asked : (t : Table) (nodes : List NodeEntry) (r : Roots) (f : Fault) → r.top ≡ ROOT → pc_fault t r ≡ Some f → asked_damage t nodes [] r ≡ Some f
root_asked t nodes r f is some =
    folder_asked t nodes r (ap (λ (n : ℕ). nat_eq n STORE) is) (ap (λ (n : ℕ). nat_eq n NAME_MAP) is) (ap (is_type FOLDER) is) ∙ folder_first t nodes r f some

-- ---- what is told of 0x21, of 0x122 and of 0x61

found_in : (nodes : List NodeEntry) (nid : ℕ) (o : Option NodeEntry) → node_with nid nodes ≡ o → node_in nodes nid ≡ option_map entry_roots o
unfolding node_in
found_in nodes nid o e = rw e refl

module _ (t : Table) (nodes : List NodeEntry) (rises : Rises 0 None (map node_key nodes)) (own : nodes_fault t nodes ≡ None) where
  told_in_order : (nid : ℕ) → fault_told nid (broken_by (node_damage t nodes []) nodes) ≡ if_there (node_damage t nodes []) (node_with nid nodes)
  told_in_order nid = told_among (node_damage t nodes []) nid 0 nodes rises

  of_store : fault_told STORE (nodes_damage t nodes []) ≡ required_fault t nodes STORE
  unfolding nodes_damage required_fault
  of_store =
      let told = broken_by (node_damage t nodes []) nodes in
      passes_required nodes STORE ROOT (with_required nodes [] STORE told) refl ∙ told_required (node_damage t nodes []) nodes STORE told (told_in_order STORE) ∙ by_found (node_with STORE nodes) refl
    where
      by_found : (o : Option NodeEntry) → node_with STORE nodes ≡ o → there_or (named NodeMissing 0 0 STORE) (node_damage t nodes []) o ≡ there_or (named NodeMissing 0 0 STORE) (pc_fault t) (node_in nodes STORE)
      by_found None e = ap (there_or (named NodeMissing 0 0 STORE) (pc_fault t)) (sym (found_in nodes STORE None e))
      by_found (Some x) e =
          asked_only t nodes x (none_of_found (node_fault t) STORE nodes x own e) ∙ store_asked t nodes (entry_roots x) (found_nid STORE nodes x e)
          ∙ ap (there_or (named NodeMissing 0 0 STORE) (pc_fault t)) (sym (found_in nodes STORE (Some x) e))

  of_root : told_of_root t nodes (nodes_damage t nodes []) ≡ required_fault t nodes ROOT
  unfolding nodes_damage required_fault
  of_root =
      let told = broken_by (node_damage t nodes []) nodes in
      let is = told_required (node_damage t nodes []) nodes ROOT (with_required nodes [] STORE told) (passes_required nodes ROOT STORE told refl ∙ told_in_order ROOT) in
      by_found (node_with ROOT nodes) refl is
    where
      root_by : (x : NodeEntry) (p : Option Fault) → pc_fault t (entry_roots x) ≡ p → node_with ROOT nodes ≡ Some x → (o : Option Fault) → o ≡ node_damage t nodes [] x → cond (is_some p) o None ≡ p
      root_by x None pc e o is = refl
      root_by x (Some f) pc e o is = is ∙ asked_only t nodes x (none_of_found (node_fault t) ROOT nodes x own e) ∙ root_asked t nodes (entry_roots x) f (found_nid ROOT nodes x e) pc

      by_found : (o : Option NodeEntry) → node_with ROOT nodes ≡ o
          → fault_told ROOT (with_required nodes [] ROOT (with_required nodes [] STORE (broken_by (node_damage t nodes []) nodes))) ≡ there_or (named NodeMissing 0 0 ROOT) (node_damage t nodes []) o
          → cond (is_some (there_or (named NodeMissing 0 0 ROOT) (pc_fault t) (node_in nodes ROOT))) (fault_told ROOT (with_required nodes [] ROOT (with_required nodes [] STORE (broken_by (node_damage t nodes []) nodes)))) None
          ≡ there_or (named NodeMissing 0 0 ROOT) (pc_fault t) (node_in nodes ROOT)
      by_found None e is = rw (found_in nodes ROOT None e) is
      by_found (Some x) e is = rw (found_in nodes ROOT (Some x) e) (root_by x (pc_fault t (entry_roots x)) refl e _ is)

  of_names : fault_told NAME_MAP (nodes_damage t nodes []) ≡ if_there (name_map_fault t) (node_in nodes NAME_MAP)
  unfolding nodes_damage
  of_names =
      let told = broken_by (node_damage t nodes []) nodes in
      passes_required nodes NAME_MAP ROOT (with_required nodes [] STORE told) refl ∙ passes_required nodes NAME_MAP STORE told refl ∙ told_in_order NAME_MAP ∙ by_found (node_with NAME_MAP nodes) refl
    where
      by_found : (o : Option NodeEntry) → node_with NAME_MAP nodes ≡ o → if_there (node_damage t nodes []) o ≡ if_there (name_map_fault t) (node_in nodes NAME_MAP)
      by_found None e = ap (if_there (name_map_fault t)) (sym (found_in nodes NAME_MAP None e))
      by_found (Some x) e =
          asked_only t nodes x (none_of_found (node_fault t) NAME_MAP nodes x own e) ∙ names_asked t nodes (entry_roots x) (found_nid NAME_MAP nodes x e)
          ∙ ap (if_there (name_map_fault t)) (sym (found_in nodes NAME_MAP (Some x) e))

  -- ---- the first of all others

  same_typed : (e : NodeEntry) → node_with e.nid nodes ≡ Some e → required_fault t nodes STORE ≡ None → if_there (name_map_fault t) (node_in nodes NAME_MAP) ≡ None → asked_damage t nodes [] (entry_roots e) ≡ typed_node_fault t nodes (entry_roots e)
  unfolding asked_damage typed_node_fault required_fault
  same_typed e found store names = by_store (nat_eq e.nid STORE) refl
    where
      of_no_type : (e : NodeEntry) → is_type FOLDER e.nid ≡ false → is_type SEARCH_FOLDER e.nid ≡ false → is_message e.nid ≡ false
          → cond (is_type FOLDER e.nid) (folder_fault t nodes (entry_roots e)) (cond (is_type SEARCH_FOLDER e.nid) (pc_fault t (entry_roots e)) (cond (is_message e.nid) (message_fault t (entry_roots e)) None)) ≡ None
      of_no_type e a b c = rw (a, b, c) refl

      by_names : (v : Bool) → nat_eq e.nid NAME_MAP ≡ v → cond v (name_map_fault t (entry_roots e)) (cond (is_type FOLDER e.nid) (folder_damage t nodes [] (entry_roots e)) (cond (is_type SEARCH_FOLDER e.nid) (pc_fault t (entry_roots e)) (cond (is_message e.nid) (message_fault t (entry_roots e)) None)))
          ≡ cond (is_type FOLDER e.nid) (folder_fault t nodes (entry_roots e)) (cond (is_type SEARCH_FOLDER e.nid) (pc_fault t (entry_roots e)) (cond (is_message e.nid) (message_fault t (entry_roots e)) None))
      by_names false h = ap (λ (o : Option Fault). cond (is_type FOLDER e.nid) o (cond (is_type SEARCH_FOLDER e.nid) (pc_fault t (entry_roots e)) (cond (is_message e.nid) (message_fault t (entry_roots e)) None))) (same_folder t nodes (entry_roots e) own)
      by_names true h =
          let is : e.nid ≡ NAME_MAP = grind (arith, nat_tests, h) in
          let there : node_with NAME_MAP nodes ≡ Some e = ap (λ (n : ℕ). node_with n nodes) (sym is) ∙ found in
          let none : name_map_fault t (entry_roots e) ≡ None = sym (ap (if_there (name_map_fault t)) (found_in nodes NAME_MAP (Some e) there)) ∙ names in
          none ∙ sym (of_no_type e (ap (is_type FOLDER) is) (ap (is_type SEARCH_FOLDER) is) (ap is_message is))

      by_store : (v : Bool) → nat_eq e.nid STORE ≡ v → cond v (pc_fault t (entry_roots e)) (cond (nat_eq e.nid NAME_MAP) (name_map_fault t (entry_roots e)) (cond (is_type FOLDER e.nid) (folder_damage t nodes [] (entry_roots e)) (cond (is_type SEARCH_FOLDER e.nid) (pc_fault t (entry_roots e)) (cond (is_message e.nid) (message_fault t (entry_roots e)) None))))
          ≡ cond (is_type FOLDER e.nid) (folder_fault t nodes (entry_roots e)) (cond (is_type SEARCH_FOLDER e.nid) (pc_fault t (entry_roots e)) (cond (is_message e.nid) (message_fault t (entry_roots e)) None))
      by_store false h = by_names (nat_eq e.nid NAME_MAP) refl
      by_store true h =
          let is : e.nid ≡ STORE = grind (arith, nat_tests, h) in
          let there : node_with STORE nodes ≡ Some e = ap (λ (n : ℕ). node_with n nodes) (sym is) ∙ found in
          let none : pc_fault t (entry_roots e) ≡ None = sym (ap (there_or (named NodeMissing 0 0 STORE) (pc_fault t)) (found_in nodes STORE (Some e) there)) ∙ store in
          none ∙ sym (of_no_type e (ap (is_type FOLDER) is) (ap (is_type SEARCH_FOLDER) is) (ap is_message is))

  first_of_told : (some : List NodeEntry) → AreFound nodes some → first_of (node_fault t) some ≡ None → required_fault t nodes STORE ≡ None → if_there (name_map_fault t) (node_in nodes NAME_MAP) ≡ None
      → first_of_all (broken_by (node_damage t nodes []) some) ≡ first_of (typed_node_fault t nodes) (all_roots some)
  unfolding broken_by first_of
  first_of_told [] all none store names = refl
  first_of_told (e ∷ rest) all none store names =
      let both = none_then (node_fault t e) (first_of (node_fault t) rest) none in
      by_fault (node_damage t nodes [] e) (asked_only t nodes e both.0 ∙ same_typed e (found_here nodes rest e all) store names) (first_of_told rest (found_rest nodes rest e all) both.1 store names)
    where
      by_fault : (o : Option Fault) → o ≡ typed_node_fault t nodes (entry_roots e) → first_of_all (broken_by (node_damage t nodes []) rest) ≡ first_of (typed_node_fault t nodes) (all_roots rest)
          → first_of_all (told_node o e (broken_by (node_damage t nodes []) rest)) ≡ (typed_node_fault t nodes (entry_roots e) then first_of (typed_node_fault t nodes) (all_roots rest))
      by_fault None is more = rw (← is) more
      by_fault (Some f) is more = rw (← is) refl

  of_others : required_fault t nodes STORE ≡ None → required_fault t nodes ROOT ≡ None → if_there (name_map_fault t) (node_in nodes NAME_MAP) ≡ None → first_of_all (nodes_damage t nodes []) ≡ first_of (typed_node_fault t nodes) (all_roots nodes)
  unfolding nodes_damage required_fault
  of_others store root names =
      let told = broken_by (node_damage t nodes []) nodes in
      ap first_of_all (is_there ROOT root (with_required nodes [] STORE told) ∙ is_there STORE store told) ∙ first_of_told nodes (all_found nodes rises) own store names
    where
      is_there : (nid : ℕ) → required_fault t nodes nid ≡ None → (told : List BrokenNode) → with_required nodes [] nid told ≡ told
      is_there nid none told = by_found (node_with nid nodes) refl none
        where
          by_found : (o : Option NodeEntry) → node_with nid nodes ≡ o → required_fault t nodes nid ≡ None → with_required nodes [] nid told ≡ told
          by_found None e none = absurd (lacks (rw (found_in nodes nid None e) at none))
            where
              lacks : Some (named NodeMissing 0 0 nid) ≡ None → ⊥
              lacks e = cc
          by_found (Some x) e none = required_there nodes nid told x e

  after_own : (fault_told STORE (nodes_damage t nodes []) then told_of_root t nodes (nodes_damage t nodes []) then fault_told NAME_MAP (nodes_damage t nodes []) then first_of_all (nodes_damage t nodes [])) ≡ messaging_fault t nodes
  unfolding messaging_fault
  after_own = rw (of_store, of_root, of_names) (by_store (required_fault t nodes STORE) refl)
    where
      by_names : (o : Option Fault) → if_there (name_map_fault t) (node_in nodes NAME_MAP) ≡ o → required_fault t nodes STORE ≡ None → required_fault t nodes ROOT ≡ None
          → (o then first_of_all (nodes_damage t nodes [])) ≡ (o then first_of (typed_node_fault t nodes) (all_roots nodes))
      by_names (Some f) e store root = refl
      by_names None e store root = of_others store root e

      by_root : (o : Option Fault) → required_fault t nodes ROOT ≡ o → required_fault t nodes STORE ≡ None
          → (o then if_there (name_map_fault t) (node_in nodes NAME_MAP) then first_of_all (nodes_damage t nodes [])) ≡ (o then if_there (name_map_fault t) (node_in nodes NAME_MAP) then first_of (typed_node_fault t nodes) (all_roots nodes))
      by_root (Some f) e store = refl
      by_root None e store = by_names (if_there (name_map_fault t) (node_in nodes NAME_MAP)) refl store e

      by_store : (o : Option Fault) → required_fault t nodes STORE ≡ o
          → (o then required_fault t nodes ROOT then if_there (name_map_fault t) (node_in nodes NAME_MAP) then first_of_all (nodes_damage t nodes []))
          ≡ (o then required_fault t nodes ROOT then if_there (name_map_fault t) (node_in nodes NAME_MAP) then first_of (typed_node_fault t nodes) (all_roots nodes))
      by_store (Some f) e = refl
      by_store None e = by_root (required_fault t nodes ROOT) refl e

-- ---- all of it

pub first_of_nodes_is : (t : Table) (nodes : List NodeEntry) → Rises 0 None (map node_key nodes) → first_of_nodes t nodes (nodes_damage t nodes []) ≡ (nodes_fault t nodes then messaging_fault t nodes)
first_of_nodes_is t nodes rises = rw (first_own_is t nodes rises) (by_own (nodes_fault t nodes) refl)
  where
    by_own : (o : Option Fault) → nodes_fault t nodes ≡ o
        → (o then fault_told STORE (nodes_damage t nodes []) then told_of_root t nodes (nodes_damage t nodes []) then fault_told NAME_MAP (nodes_damage t nodes []) then first_of_all (nodes_damage t nodes []))
        ≡ (o then messaging_fault t nodes)
    by_own (Some f) e = refl
    by_own None e = after_own t nodes rises e
