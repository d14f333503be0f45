-- The whole nodes of a damaged file are intact.
use Rattle.std.proofs.Common.{◌≡◌, ℕ, ◌+◌, ◌<◌, ◌≤◌, Bool, true, false, cond, List, [], ◌∷◌, map, Option, Some, None, refl, sym, ap, ◌∙◌, arith}
use Rattle.std.specs.Prelude.{nat_eq, option_map}
use Rattle.std.proofs.lemmas.Bool.Decides.{nat_tests}
use Rattle.pst_fault.specs.declared.fault.Fault.{Fault}
use Rattle.pst_fault.specs.Each.{first_of, if_there}
use Rattle.pst_fault.specs.First.{◌then◌}
use Rattle.pst_fault.proofs.FirstLemmas.{none_then, both_none}
use Rattle.pst_page.specs.declared.entry.NodeEntry.{NodeEntry}
use Rattle.pst_btree.specs.Entries.{first_with, node_key, node_with}
use Rattle.pst_btree.specs.Order.{Rises}
use Rattle.pst_block.specs.Table.{Table}
use Rattle.pst_ndb.specs.Fault.{node_fault, nodes_fault}
use Rattle.pst_ndb.specs.Roots.{Roots, entry_roots, node_in, all_roots}
use Rattle.pst_remains.specs.declared.pages.Broken.{Broken}
use Rattle.pst_intact.specs.pst_msg.pst_pc.Fault.{pc_fault}
use Rattle.pst_tc.specs.Fault.{tc_fault}
use Rattle.pst_intact.specs.pst_msg.pst_names.declared.name_map.TheConstants.{NAME_MAP}
use Rattle.pst_intact.specs.pst_msg.pst_mail.declared.items.Items.{Items}
use Rattle.pst_intact.specs.pst_msg.pst_mail.declared.items.Items.TheVariants.{Subfolders, Messages, Associated}
use Rattle.pst_intact.specs.pst_msg.pst_mail.declared.nid.TheConstants.{STORE, FOLDER, SEARCH_FOLDER}
use Rattle.pst_intact.specs.pst_msg.Fault.{message_fault, name_map_fault}
use Rattle.pst_intact.specs.pst_msg.Nid.{is_type, with_type}
use Rattle.pst_intact.specs.pst_msg.Values.{is_message, listing_of, type_of_items}
use Rattle.pst_damage.specs.Folder.{items_damage, table_damage, folder_damage, asked_damage}
use Rattle.pst_damage.specs.Judged.{Judged, kept_node, sound_by, sound_nodes}
use Rattle.pst_damage.specs.Nodes.{node_damage}
use Rattle.pst_intact.specs.Fault.{listing_fault, tables_fault, intact_node_fault, intact_fault}
use Rattle.pst_whole.specs.Nodes.{whole_nodes}

-- ---- their identifiers rise, and their own trees have no fault

lower : (low less : ℕ) (nodes : List NodeEntry) → less ≤ low → Rises low None (map node_key nodes) → Rises less None (map node_key nodes)
lower low less [] le r = tt
lower low less (e ∷ rest) le r = (omega (arith, le, r.0), r.1, r.2)

sound_rises : (part : Judged) (low : ℕ) (nodes : List NodeEntry) → Rises low None (map node_key nodes) → Rises low None (map node_key (sound_by part nodes))
unfolding sound_by
sound_rises part low [] r = tt
sound_rises part low (e ∷ rest) r = kept (part e) (sound_rises part (e.nid + 1) rest r.2)
  where
    kept : (o : Option Fault) → Rises (e.nid + 1) None (map node_key (sound_by part rest)) → Rises low None (map node_key (kept_node o e (sound_by part rest)))
    kept None more = (r.0, r.1, more)
    kept (Some f) more = lower (e.nid + 1) low (sound_by part rest) (omega (arith, r.0)) more

pub whole_rise : (t : Table) (nodes entries : List NodeEntry) (broken : List Broken) → Rises 0 None (map node_key nodes) → entries ≡ whole_nodes t nodes broken → Rises 0 None (map node_key entries)
unfolding whole_nodes
whole_rise t nodes entries broken r is = rw is (sound_rises (node_damage t nodes broken) 0 nodes r)

own_none : (t : Table) (nodes : List NodeEntry) (broken : List Broken) (e : NodeEntry) → node_damage t nodes broken e ≡ None → (node_fault t e ≡ None) × (asked_damage t nodes broken (entry_roots e) ≡ None)
unfolding node_damage
own_none t nodes broken e none = none_then (node_fault t e) (asked_damage t nodes broken (entry_roots e)) none

-- of all that are sound by one part, another that follows from it tells nothing
none_of_sound : (part other : Judged) (nodes : List NodeEntry) → ((e : NodeEntry) → part e ≡ None → other e ≡ None) → first_of other (sound_by part nodes) ≡ None
unfolding sound_by first_of
none_of_sound part other [] is = refl
none_of_sound part other (e ∷ rest) is = kept (part e) refl (none_of_sound part other rest is)
  where
    kept : (o : Option Fault) → part e ≡ o → first_of other (sound_by part rest) ≡ None → first_of other (kept_node o e (sound_by part rest)) ≡ None
    kept None none more = both_none (other e) (first_of other (sound_by part rest)) (is e none) more
    kept (Some f) none more = more

pub whole_trees : (t : Table) (nodes entries : List NodeEntry) (broken : List Broken) → entries ≡ whole_nodes t nodes broken → nodes_fault t entries ≡ None
unfolding whole_nodes
whole_trees t nodes entries broken is = rw is (none_of_sound (node_damage t nodes broken) (node_fault t) nodes (λ e none. (own_none t nodes broken e none).0))

-- ---- a whole node is found among the sound ones

with_by_test : (nid : ℕ) (e : NodeEntry) (rest : List NodeEntry) (v : Bool) → nat_eq e.nid nid ≡ v → node_with nid (e ∷ rest) ≡ cond v (Some e) (node_with nid rest)
unfolding first_with
with_by_test nid e rest true h = rw h refl
with_by_test nid e rest false h = rw h refl

none_with : (nid : ℕ) → node_with nid [] ≡ None
unfolding first_with
none_with nid = refl

-- none with a lesser identifier is found among nodes whose identifiers rise
none_below : (nid low : ℕ) (nodes : List NodeEntry) → nid < low → Rises low None (map node_key nodes) → node_with nid nodes ≡ None
none_below nid low [] lt r = none_with nid
none_below nid low (e ∷ rest) lt r = with_by_test nid e rest false (other e.nid nid (omega (arith, lt, r.0))) ∙ none_below nid (e.nid + 1) rest (omega (arith, lt, r.0)) r.2
  where
    other : (a b : ℕ) → b < a → nat_eq a b ≡ false
    other a b lt = grind (arith, nat_tests, lt)

pub found_sound : (part other : Judged) (nid low : ℕ) (nodes : List NodeEntry) (x : NodeEntry) → ((e : NodeEntry) → part e ≡ None → other e ≡ None) → Rises low None (map node_key nodes) → node_with nid (sound_by part nodes) ≡ Some x → node_with nid (sound_by other nodes) ≡ Some x
unfolding sound_by
found_sound part other nid low [] x is r found = found
found_sound part other nid low (e ∷ rest) x is r found = by_fault (part e) refl (other e) refl (λ h. found_sound part other nid (e.nid + 1) rest x is r.2 h) found
  where
    more : Type 0
    more = node_with nid (sound_by part rest) ≡ Some x → node_with nid (sound_by other rest) ≡ Some x

    here : (v : Bool) → nat_eq e.nid nid ≡ v → more → cond v (Some e) (node_with nid (sound_by part rest)) ≡ Some x → cond v (Some e) (node_with nid (sound_by other rest)) ≡ Some x
    here true h later f = f
    here false h later f = later f

    none : (v : Bool) → nat_eq e.nid nid ≡ v → more → node_with nid (sound_by part rest) ≡ Some x → cond v (Some e) (node_with nid (sound_by other rest)) ≡ Some x
    none false h later f = later f
    none true h later f =
        let same : e.nid ≡ nid = grind (arith, nat_tests, h) in
        let lacks : node_with nid (sound_by part rest) ≡ None = none_below nid (e.nid + 1) (sound_by part rest) (omega (arith, same)) (sound_rises part (e.nid + 1) rest r.2) in
        absurd (no (sym lacks ∙ f))
      where
        no : None ≡ Some x → ⊥
        no e = cc

    by_fault : (o : Option Fault) → part e ≡ o → (p : Option Fault) → other e ≡ p → more → node_with nid (kept_node o e (sound_by part rest)) ≡ Some x → node_with nid (kept_node p e (sound_by other rest)) ≡ Some x
    by_fault None a None b later f =
        with_by_test nid e (sound_by other rest) (nat_eq e.nid nid) refl
        ∙ here (nat_eq e.nid nid) refl later (sym (with_by_test nid e (sound_by part rest) (nat_eq e.nid nid) refl) ∙ f)
    by_fault None a (Some g) b later f = absurd (no (sym (is e a) ∙ b))
      where
        no : None ≡ Some g → ⊥
        no e = cc
    by_fault (Some g) a None b later f = with_by_test nid e (sound_by other rest) (nat_eq e.nid nid) refl ∙ none (nat_eq e.nid nid) refl later f
    by_fault (Some g) a (Some h) b later f = later f

found_in : (part other : Judged) (nid : ℕ) (nodes : List NodeEntry) (r : Roots) → ((e : NodeEntry) → part e ≡ None → other e ≡ None) → Rises 0 None (map node_key nodes) → node_in (sound_by part nodes) nid ≡ Some r → node_in (sound_by other nodes) nid ≡ Some r
unfolding node_in
found_in part other nid nodes r is rises found = by_entry (node_with nid (sound_by part nodes)) refl found
  where
    by_entry : (o : Option NodeEntry) → node_with nid (sound_by part nodes) ≡ o → option_map entry_roots o ≡ Some r → option_map entry_roots (node_with nid (sound_by other nodes)) ≡ Some r
    by_entry None e h = absurd cc
    by_entry (Some x) e h = ap (option_map entry_roots) (found_sound part other nid 0 nodes x is rises e) ∙ h

-- ---- a table of a folder

listing_whole : (t : Table) (nodes : List NodeEntry) (broken : List Broken) (items : Items) (nid : ℕ) → Rises 0 None (map node_key nodes) → table_damage t nodes broken items nid ≡ None → listing_fault t (whole_nodes t nodes broken) items nid ≡ None
unfolding table_damage listing_fault whole_nodes items_damage
listing_whole t nodes broken items nid rises none = by_table (listing_of (sound_by (node_damage t nodes broken) nodes) items nid) refl
  where
    by_table : (o : Option Roots) → listing_of (sound_by (node_damage t nodes broken) nodes) items nid ≡ o → if_there (tc_fault t) o ≡ None
    by_table None is = refl
    by_table (Some r) is =
        let there : listing_of (sound_nodes t nodes) items nid ≡ Some r =
        found_in (node_damage t nodes broken) (node_fault t) (with_type nid (type_of_items items)) nodes r (λ e h. (own_none t nodes broken e h).0) rises is in
        let here : items_damage t nodes broken items r ≡ None = ap (if_there (items_damage t nodes broken items)) (sym there) ∙ none in
        (none_then (tc_fault t r) _ here).0

tables_whole : (t : Table) (nodes : List NodeEntry) (broken : List Broken) (r : Roots) → Rises 0 None (map node_key nodes) → folder_damage t nodes broken r ≡ None → tables_fault t (whole_nodes t nodes broken) r ≡ None
unfolding folder_damage tables_fault
tables_whole t nodes broken r rises none =
    let a = table_damage t nodes broken Subfolders r.top in
    let b = table_damage t nodes broken Messages r.top in
    let c = table_damage t nodes broken Associated r.top in
    let p = none_then (pc_fault t r) (a then b then c) none in
    let q = none_then a (b then c) p.1 in
    let s = none_then b c q.1 in
    let w = whole_nodes t nodes broken in
    both_none (pc_fault t r) _ p.0
    (both_none (listing_fault t w Subfolders r.top) _ (listing_whole t nodes broken Subfolders r.top rises q.0)
    (both_none (listing_fault t w Messages r.top) _ (listing_whole t nodes broken Messages r.top rises s.0) (listing_whole t nodes broken Associated r.top rises s.1)))

-- ---- a node

of_type : (a b : ℕ) → nat_eq a b ≡ true → a ≡ b
of_type a b e = grind (arith, nat_tests, e)

node_whole : (t : Table) (nodes : List NodeEntry) (broken : List Broken) (r : Roots) → Rises 0 None (map node_key nodes) → asked_damage t nodes broken r ≡ None → intact_node_fault t (whole_nodes t nodes broken) r ≡ None
unfolding asked_damage intact_node_fault
node_whole t nodes broken r rises none = by_type (is_type FOLDER r.top) refl (is_type SEARCH_FOLDER r.top) refl (is_message r.top) refl
  where
    -- the nodes of the store and of the name map are of no type of these
    plain : (nid : ℕ) → nat_eq r.top nid ≡ true → is_type FOLDER nid ≡ false → is_type SEARCH_FOLDER nid ≡ false → is_message nid ≡ false
        → (a : Bool) → is_type FOLDER r.top ≡ a → (b : Bool) → is_type SEARCH_FOLDER r.top ≡ b → (c : Bool) → is_message r.top ≡ c → (cond a true (cond b true c)) ≡ false
    plain nid e f g h a x b y c z =
        let is : r.top ≡ nid = of_type r.top nid e in
        let p : a ≡ false = sym x ∙ ap (is_type FOLDER) is ∙ f in
        let q : b ≡ false = sym y ∙ ap (is_type SEARCH_FOLDER) is ∙ g in
        let s : c ≡ false = sym z ∙ ap is_message is ∙ h in
        rw (p, q) s

    asked : Bool → Bool → Bool → Bool → Bool → Option Fault
    asked s m a b c = cond s (pc_fault t r) (cond m (name_map_fault t r) (cond a (folder_damage t nodes broken r) (cond b (pc_fault t r) (cond c (message_fault t r) None))))

    intact : Bool → Bool → Bool → Option Fault
    intact a b c = cond a (tables_fault t (whole_nodes t nodes broken) r) (cond b (pc_fault t r) (cond c (message_fault t r) None))

    no_type : (a b c : Bool) → (cond a true (cond b true c)) ≡ false → intact a b c ≡ None
    no_type true b c e = absurd cc
    no_type false true c e = absurd cc
    no_type false false true e = absurd cc
    no_type false false false e = refl

    typed : (a b c : Bool) → asked false false a b c ≡ None → intact a b c ≡ None
    typed true b c e = tables_whole t nodes broken r rises e
    typed false b c e = e

    by_nid : (s : Bool) → nat_eq r.top STORE ≡ s → (m : Bool) → nat_eq r.top NAME_MAP ≡ m → (a : Bool) → is_type FOLDER r.top ≡ a → (b : Bool) → is_type SEARCH_FOLDER r.top ≡ b → (c : Bool) → is_message r.top ≡ c → asked s m a b c ≡ None → intact a b c ≡ None
    by_nid true p m q a x b y c z e = no_type a b c (plain STORE p refl refl refl a x b y c z)
    by_nid false p true q a x b y c z e = no_type a b c (plain NAME_MAP q refl refl refl a x b y c z)
    by_nid false p false q a x b y c z e = typed a b c e

    by_type : (a : Bool) → is_type FOLDER r.top ≡ a → (b : Bool) → is_type SEARCH_FOLDER r.top ≡ b → (c : Bool) → is_message r.top ≡ c → intact (is_type FOLDER r.top) (is_type SEARCH_FOLDER r.top) (is_message r.top) ≡ None
    by_type a x b y c z =
        by_nid (nat_eq r.top STORE) refl (nat_eq r.top NAME_MAP) refl (is_type FOLDER r.top) refl (is_type SEARCH_FOLDER r.top) refl (is_message r.top) refl none

-- ---- all of them

roots_of_sound : (part : Judged) (other : Roots → Option Fault) (nodes : List NodeEntry) → ((e : NodeEntry) → part e ≡ None → other (entry_roots e) ≡ None) → first_of other (all_roots (sound_by part nodes)) ≡ None
unfolding sound_by first_of
roots_of_sound part other [] is = refl
roots_of_sound part other (e ∷ rest) is = kept (part e) refl (roots_of_sound part other rest is)
  where
    kept : (o : Option Fault) → part e ≡ o → first_of other (all_roots (sound_by part rest)) ≡ None → first_of other (all_roots (kept_node o e (sound_by part rest))) ≡ None
    kept None none more = both_none (other (entry_roots e)) (first_of other (all_roots (sound_by part rest))) (is e none) more
    kept (Some f) none more = more

pub found_is_sound : (part : Judged) (nid : ℕ) (nodes : List NodeEntry) (x : NodeEntry) → node_with nid (sound_by part nodes) ≡ Some x → (part x ≡ None) × (x.nid ≡ nid)
unfolding sound_by
found_is_sound part nid [] x found = absurd (no (sym (none_with nid) ∙ found))
  where
    no : None ≡ Some x → ⊥
    no e = cc
found_is_sound part nid (e ∷ rest) x found = by_fault (part e) refl (λ h. found_is_sound part nid rest x h) found
  where
    more : Type 0
    more = node_with nid (sound_by part rest) ≡ Some x → (part x ≡ None) × (x.nid ≡ nid)

    some_is : (a b : NodeEntry) → Some a ≡ Some b → a ≡ b
    some_is a b e = cc

    here : part e ≡ None → (v : Bool) → nat_eq e.nid nid ≡ v → more → cond v (Some e) (node_with nid (sound_by part rest)) ≡ Some x → (part x ≡ None) × (x.nid ≡ nid)
    here none true h later f =
        let is : e ≡ x = some_is e x f in
        let same : e.nid ≡ nid = grind (arith, nat_tests, h) in
        (ap part (sym is) ∙ none, ap (λ (y : NodeEntry). y.nid) (sym is) ∙ same)
    here none false h later f = later f

    by_fault : (o : Option Fault) → part e ≡ o → more → node_with nid (kept_node o e (sound_by part rest)) ≡ Some x → (part x ≡ None) × (x.nid ≡ nid)
    by_fault None is later f = here is (nat_eq e.nid nid) refl later (sym (with_by_test nid e (sound_by part rest) (nat_eq e.nid nid) refl) ∙ f)
    by_fault (Some g) is later f = later f

names_asked : (t : Table) (nodes : List NodeEntry) (broken : List Broken) (r : Roots) → r.top ≡ NAME_MAP → asked_damage t nodes broken r ≡ name_map_fault t r
unfolding asked_damage
names_asked t nodes broken r is = rw is refl

names_whole : (t : Table) (nodes : List NodeEntry) (broken : List Broken) → if_there (name_map_fault t) (node_in (whole_nodes t nodes broken) NAME_MAP) ≡ None
unfolding whole_nodes node_in
names_whole t nodes broken = by_entry (node_with NAME_MAP (sound_by (node_damage t nodes broken) nodes)) refl
  where
    by_entry : (o : Option NodeEntry) → node_with NAME_MAP (sound_by (node_damage t nodes broken) nodes) ≡ o → if_there (name_map_fault t) (option_map entry_roots o) ≡ None
    by_entry None is = refl
    by_entry (Some x) is =
        let sound = found_is_sound (node_damage t nodes broken) NAME_MAP nodes x is in
        sym (names_asked t nodes broken (entry_roots x) sound.1) ∙ (own_none t nodes broken x sound.0).1

is_list : (t : Table) (nodes xs : List NodeEntry) (broken : List Broken) → whole_nodes t nodes broken ≡ xs → xs ≡ sound_by (node_damage t nodes broken) nodes
unfolding whole_nodes
is_list t nodes xs broken e = sym e

each_whole : (t : Table) (nodes : List NodeEntry) (broken : List Broken) → Rises 0 None (map node_key nodes) → first_of (intact_node_fault t (whole_nodes t nodes broken)) (all_roots (whole_nodes t nodes broken)) ≡ None
each_whole t nodes broken rises = by_list (whole_nodes t nodes broken) refl
  where
    by_list : (xs : List NodeEntry) → whole_nodes t nodes broken ≡ xs → first_of (intact_node_fault t (whole_nodes t nodes broken)) (all_roots xs) ≡ None
    by_list xs e =
        rw (is_list t nodes xs broken e) (roots_of_sound (node_damage t nodes broken) (intact_node_fault t (whole_nodes t nodes broken)) nodes (λ x none. node_whole t nodes broken (entry_roots x) rises (own_none t nodes broken x none).1))

pub whole_intact : (t : Table) (nodes entries : List NodeEntry) (broken : List Broken) → Rises 0 None (map node_key nodes) → entries ≡ whole_nodes t nodes broken → intact_fault t entries ≡ None
unfolding intact_fault
whole_intact t nodes entries broken rises is =
    rw is (both_none (if_there (name_map_fault t) (node_in (whole_nodes t nodes broken) NAME_MAP)) _ (names_whole t nodes broken) (each_whole t nodes broken rises))
