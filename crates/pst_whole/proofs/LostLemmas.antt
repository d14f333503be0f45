-- What is told of broken nodes, and of what lies behind broken pages.
use Rattle.std.proofs.Common.{◌≡◌, ℕ, ◌+◌, ◌<◌, ◌≤◌, Bool, true, false, cond, List, [], ◌∷◌, map, Option, Some, None, refl, sym, ap, ◌∙◌, arith}
use Rattle.std.specs.Prelude.{◌&&◌, nat_eq, nat_lt, is_none, is_some, option_map}
use Rattle.std.specs.List.{filter}
use Rattle.std.proofs.lemmas.Bool.Decides.{nat_tests}
use Rattle.pst_fault.specs.declared.fault.Fault.{Fault}
use Rattle.pst_fault.specs.Each.{if_there}
use Rattle.pst_page.specs.declared.entry.NodeEntry.{NodeEntry}
use Rattle.pst_btree.specs.Entries.{first_with, node_key, node_with}
use Rattle.pst_btree.specs.Order.{Rises}
use Rattle.pst_block.specs.Table.{Table}
use Rattle.pst_remains.specs.declared.pages.Broken.{Broken}
use Rattle.pst_remains.specs.Pages.{page_before}
use Rattle.pst_intact.specs.pst_msg.pst_mail.declared.nid.TheConstants.{STORE, ROOT}
use Rattle.pst_damage.specs.declared.broken.BrokenNode.{BrokenNode}
use Rattle.pst_damage.specs.Judged.{Judged, told_node, broken_by, sound_by}
use Rattle.pst_damage.specs.Laws.{told_nid, fault_told}
use Rattle.pst_damage.specs.Nodes.{node_damage, missing, with_required, nodes_damage}
use Rattle.pst_damage.specs.Order.{put_in}
use Rattle.pst_whole.specs.Lost.{own_lost, behind_lost, fault_of_page}
use Rattle.pst_whole.specs.Nodes.{broken_nodes, whole_nodes, is_there}

-- ---- of nodes whose identifiers rise, those that are told rise, too

lower_told : (low less : ℕ) (told : List BrokenNode) → less ≤ low → Rises low None (map told_nid told) → Rises less None (map told_nid told)
lower_told low less [] le r = tt
lower_told low less (b ∷ rest) le r = (omega (arith, le, r.0), r.1, r.2)

told_rises : (part : Judged) (low : ℕ) (nodes : List NodeEntry) → Rises low None (map node_key nodes) → Rises low None (map told_nid (broken_by part nodes))
unfolding broken_by
told_rises part low [] r = tt
told_rises part low (e ∷ rest) r = by_fault (part e) (told_rises part (e.nid + 1) rest r.2)
  where
    by_fault : (o : Option Fault) → Rises (e.nid + 1) None (map told_nid (broken_by part rest)) → Rises low None (map told_nid (told_node o e (broken_by part rest)))
    by_fault None more = lower_told (e.nid + 1) low (broken_by part rest) (omega (arith, r.0)) more
    by_fault (Some f) more = (r.0, r.1, more)

pub broken_rise : (t : Table) (nodes : List NodeEntry) (broken : List Broken) (told : List BrokenNode) → Rises 0 None (map node_key nodes) → told ≡ broken_nodes t nodes broken → Rises 0 None (map told_nid told)
unfolding broken_nodes
broken_rise t nodes broken told r is = rw is (told_rises (node_damage t nodes broken) 0 nodes r)

-- ---- what is told of a node

pub told_by_test : (nid : ℕ) (b : BrokenNode) (rest : List BrokenNode) (v : Bool) → nat_eq b.nid nid ≡ v → fault_told nid (b ∷ rest) ≡ cond v (Some b.fault) (fault_told nid rest)
unfolding first_with
told_by_test nid b rest true e = rw e refl
told_by_test nid b rest false e = rw e refl

none_told : (nid : ℕ) → fault_told nid [] ≡ None
unfolding first_with
none_told nid = refl

told_behind : (part : Judged) (nid low : ℕ) (nodes : List NodeEntry) → nid < low → Rises low None (map node_key nodes) → fault_told nid (broken_by part nodes) ≡ None
unfolding broken_by
told_behind part nid low [] lt r = none_told nid
told_behind part nid low (e ∷ rest) lt r = by_fault (part e) (told_behind part nid (e.nid + 1) rest (omega (arith, lt, r.0)) r.2)
  where
    other : (a b : ℕ) → b < a → nat_eq a b ≡ false
    other a b lt = grind (arith, nat_tests, lt)

    by_fault : (o : Option Fault) → fault_told nid (broken_by part rest) ≡ None → fault_told nid (told_node o e (broken_by part rest)) ≡ None
    by_fault None more = more
    by_fault (Some f) more = told_by_test nid (record { nid = e.nid; fault = f }) (broken_by part rest) false (other e.nid nid (omega (arith, lt, r.0))) ∙ more

pub with_by_test : (nid : ℕ) (e : NodeEntry) (rest : List NodeEntry) (v : Bool) → nat_eq e.nid nid ≡ v → node_with nid (e ∷ rest) ≡ cond v (Some e) (node_with nid rest)
unfolding first_with
with_by_test nid e rest true h = rw h refl
with_by_test nid e rest false h = rw h refl

pub none_with : (nid : ℕ) → node_with nid [] ≡ None
unfolding first_with
none_with nid = refl

pub told_among : (part : Judged) (nid low : ℕ) (nodes : List NodeEntry) → Rises low None (map node_key nodes) → fault_told nid (broken_by part nodes) ≡ if_there part (node_with nid nodes)
unfolding broken_by
told_among part nid low [] r = none_told nid ∙ ap (if_there part) (sym (none_with nid))
told_among part nid low (e ∷ rest) r = by_test (nat_eq e.nid nid) refl (part e) refl (told_among part nid (e.nid + 1) rest r.2)
  where
    by_test : (v : Bool) → nat_eq e.nid nid ≡ v → (o : Option Fault) → part e ≡ o → fault_told nid (broken_by part rest) ≡ if_there part (node_with nid rest)
        → fault_told nid (told_node o e (broken_by part rest)) ≡ if_there part (node_with nid (e ∷ rest))
    by_test true h None is more =
        let same : e.nid ≡ nid = grind (arith, nat_tests, h) in
        told_behind part nid (e.nid + 1) rest (omega (arith, same)) r.2 ∙ sym is ∙ ap (if_there part) (sym (with_by_test nid e rest true h))
    by_test true h (Some f) is more = told_by_test nid (record { nid = e.nid; fault = f }) (broken_by part rest) true h ∙ sym is ∙ ap (if_there part) (sym (with_by_test nid e rest true h))
    by_test false h None is more = more ∙ ap (if_there part) (sym (with_by_test nid e rest false h))
    by_test false h (Some f) is more = told_by_test nid (record { nid = e.nid; fault = f }) (broken_by part rest) false h ∙ more ∙ ap (if_there part) (sym (with_by_test nid e rest false h))

pub own_is : (t : Table) (nodes : List NodeEntry) (broken : List Broken) (told : List BrokenNode) (nid : ℕ) (found : Option Fault) → Rises 0 None (map node_key nodes) → told ≡ broken_nodes t nodes broken → found ≡ fault_told nid told → found ≡ own_lost t nodes broken nid
unfolding broken_nodes
own_is t nodes broken told nid found r is found_is = found_is ∙ ap (fault_told nid) is ∙ told_among (node_damage t nodes broken) nid 0 nodes r

-- ---- what lies behind a page

pub not_behind : (nodes : List NodeEntry) (broken : List Broken) (nid : ℕ) (o : Option NodeEntry) → o ≡ node_with nid nodes → is_some o ≡ true → None ≡ behind_lost nodes broken nid
not_behind nodes broken nid None is there = absurd cc
not_behind nodes broken nid (Some e) is there = rw (← is) refl

pub is_behind : (nodes : List NodeEntry) (broken : List Broken) (nid : ℕ) (o : Option NodeEntry) (page : Option Broken) (found : Option Fault) → o ≡ node_with nid nodes → is_some o ≡ false → page ≡ page_before broken nid → found ≡ option_map fault_of_page page → found ≡ behind_lost nodes broken nid
is_behind nodes broken nid (Some e) page found is lacks before shown = absurd cc
is_behind nodes broken nid None page found is lacks before shown = shown ∙ rw (before, ← is) refl

-- ---- those that are there, among all that are told

there_put : (nodes : List NodeEntry) (b : BrokenNode) (xs : List BrokenNode) → is_there nodes b ≡ false → filter (is_there nodes) (put_in b xs) ≡ filter (is_there nodes) xs
there_put nodes b [] none = rw none refl
there_put nodes b (x ∷ xs) none = by_place (nat_lt b.nid x.nid) (there_put nodes b xs none)
  where
    by_place : (v : Bool) → filter (is_there nodes) (put_in b xs) ≡ filter (is_there nodes) xs → filter (is_there nodes) (cond v (b ∷ x ∷ xs) (x ∷ put_in b xs)) ≡ filter (is_there nodes) (x ∷ xs)
    by_place true more = rw none refl
    by_place false more = ap (λ l. cond (is_there nodes x) (x ∷ l) l) more

there_required : (nodes : List NodeEntry) (broken : List Broken) (nid : ℕ) (told : List BrokenNode) → filter (is_there nodes) (with_required nodes broken nid told) ≡ filter (is_there nodes) told
there_required nodes broken nid told = by_found (node_with nid nodes) refl (is_none (page_before broken nid))
  where
    by_found : (o : Option NodeEntry) → node_with nid nodes ≡ o → (v : Bool) → filter (is_there nodes) (cond (is_none o && v) (put_in (missing nid) told) told) ≡ filter (is_there nodes) told
    by_found (Some e) is v = refl
    by_found None is false = refl
    by_found None is true = there_put nodes (missing nid) told (rw is refl)

all_there : (part : Judged) (all nodes : List NodeEntry) → ((e : NodeEntry) (f : Fault) → is_some (node_with e.nid nodes) ≡ true → is_some (node_with e.nid all) ≡ true) → filter (is_there all) (broken_by part nodes) ≡ broken_by part nodes
unfolding broken_by
all_there part all [] among = refl
all_there part all (e ∷ rest) among = by_fault (part e) (all_there part all rest later)
  where
    behind : (nid : ℕ) (v : Bool) → is_some (node_with nid rest) ≡ true → is_some (cond v (Some e) (node_with nid rest)) ≡ true
    behind nid true is = refl
    behind nid false is = is

    later : (x : NodeEntry) (f : Fault) → is_some (node_with x.nid rest) ≡ true → is_some (node_with x.nid all) ≡ true
    later x f is = among x f (ap is_some (with_by_test x.nid e rest (nat_eq e.nid x.nid) refl) ∙ behind x.nid (nat_eq e.nid x.nid) is)

    own : nat_eq e.nid e.nid ≡ true
    own = grind (arith, nat_tests)

    here : (f : Fault) → is_some (node_with e.nid all) ≡ true
    here f = among e f (ap is_some (with_by_test e.nid e rest true own))

    by_fault : (o : Option Fault) → filter (is_there all) (broken_by part rest) ≡ broken_by part rest → filter (is_there all) (told_node o e (broken_by part rest)) ≡ told_node o e (broken_by part rest)
    by_fault None more = more
    by_fault (Some f) more = rw (here f) (ap (λ l. record { nid = e.nid; fault = f } ∷ l) more)

pub told_there_is : (t : Table) (nodes : List NodeEntry) (broken : List Broken) (all told : List BrokenNode) → all ≡ nodes_damage t nodes broken → told ≡ filter (is_there nodes) all → told ≡ broken_nodes t nodes broken
unfolding nodes_damage broken_nodes
told_there_is t nodes broken all told is kept =
    let list = broken_by (node_damage t nodes broken) nodes in
    kept ∙ ap (filter (is_there nodes)) is
    ∙ there_required nodes broken ROOT (with_required nodes broken STORE list)
    ∙ there_required nodes broken STORE list
    ∙ all_there (node_damage t nodes broken) nodes nodes (λ e f is. is)

pub untold_is : (t : Table) (nodes : List NodeEntry) (broken : List Broken) (told : List BrokenNode) (entries : List NodeEntry) → told ≡ broken_nodes t nodes broken → ((part : Judged) → told ≡ broken_by part nodes → entries ≡ sound_by part nodes) → entries ≡ whole_nodes t nodes broken
unfolding broken_nodes whole_nodes
untold_is t nodes broken told entries is others = others (node_damage t nodes broken) is
