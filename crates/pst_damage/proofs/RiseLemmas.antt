-- Nodes whose identifiers rise, and those of them that are told.
use Rattle.std.proofs.Common.{◌≡◌, ℕ, zero, suc, ◌+◌, ◌<◌, ◌≤◌, true, false, List, [], ◌∷◌, length, map, drop, get_or, Option, Some, None, refl, sym, ap, ◌∙◌, arith}
use Rattle.std.specs.Prelude.{nat_eq, slice_get}
use Rattle.std.proofs.lemmas.List.{drop_more}
use Rattle.std.proofs.lemmas.Bool.Decides.{nat_tests}
use Rattle.pst_fault.specs.declared.fault.Fault.{Fault}
use Rattle.pst_fault.proofs.FirstLemmas.{then_none}
use Rattle.pst_page.specs.declared.entry.NodeEntry.{NodeEntry}
use Rattle.pst_btree.specs.Entries.{node_key}
use Rattle.pst_btree.specs.Order.{Rises}
use Rattle.pst_block.specs.Table.{Table}
use Rattle.pst_ndb.specs.Fault.{node_fault}
use Rattle.pst_ndb.specs.Roots.{Roots, entry_roots}
use Rattle.pst_remains.specs.declared.pages.Broken.{Broken}
use Rattle.pst_damage.specs.declared.broken.BrokenNode.{BrokenNode}
use Rattle.pst_damage.specs.Folder.{asked_damage}
use Rattle.pst_damage.specs.Judged.{Judged, told_node, broken_by, own_of, place_after}
use Rattle.pst_damage.specs.Nodes.{node_damage}
use Rattle.pst_damage.proofs.JudgedLemmas.{told_first}

-- from a lower key on, they rise too
lower : (low less : ℕ) (nodes : List NodeEntry) → less ≤ low → Rises low None (map node_key nodes) → Rises less None (map node_key nodes)
lower low less [] le r = tt
lower low less (e ∷ rest) le r = (omega (arith, le, r.0), r.1, r.2)

pub rises_drop : (low : ℕ) (nodes : List NodeEntry) (i : ℕ) → Rises low None (map node_key nodes) → Rises 0 None (map node_key (drop i nodes))
rises_drop low nodes zero r = lower low 0 nodes (omega arith) r
rises_drop low [] (suc i) r = tt
rises_drop low (e ∷ rest) (suc i) r = rises_drop (e.nid + 1) rest i r.2

-- ---- the next one that is told

abbrev head : List BrokenNode → Option BrokenNode
head [] = None
head (b ∷ rest) = Some b

get_head : (xs : List BrokenNode) (n : ℕ) → slice_get xs n ≡ head (drop n xs)
get_head [] zero = refl
get_head [] (suc n) = refl
get_head (x ∷ xs) zero = refl
get_head (x ∷ xs) (suc n) = get_head xs n

own_above : (nid : ℕ) (b : BrokenNode) → nid < b.nid → own_of nid (Some b) ≡ None
own_above nid b lt = let no : nat_eq b.nid nid ≡ false = grind (arith, nat_tests, lt) in rw no refl

-- none of those behind a node is it
none_behind : (part : Judged) (nid low : ℕ) (nodes : List NodeEntry) → nid < low → Rises low None (map node_key nodes) → own_of nid (head (broken_by part nodes)) ≡ None
unfolding broken_by
none_behind part nid low [] lt r = refl
none_behind part nid low (e ∷ rest) lt r = told (part e) (none_behind part nid (e.nid + 1) rest (omega (arith, lt, r.0)) r.2)
  where
    told : (o : Option Fault) → own_of nid (head (broken_by part rest)) ≡ None → own_of nid (head (told_node o e (broken_by part rest))) ≡ None
    told None more = more
    told (Some f) more = own_above nid (record { nid = e.nid; fault = f }) (omega (arith, lt, r.0))

same : (nid : ℕ) (f : Fault) → own_of nid (Some (record { nid = nid; fault = f })) ≡ Some f
same nid f = let yes : nat_eq nid nid ≡ true = grind (arith, nat_tests) in rw yes refl

own_first : (part : Judged) (e : NodeEntry) (rest : List NodeEntry) → Rises 0 None (map node_key (e ∷ rest)) → own_of e.nid (head (broken_by part (e ∷ rest))) ≡ part e
unfolding broken_by
own_first part e rest r = told (part e)
  where
    told : (o : Option Fault) → own_of e.nid (head (told_node o e (broken_by part rest))) ≡ o
    told None = none_behind part e.nid (e.nid + 1) rest (omega arith) r.2
    told (Some f) = same e.nid f

pub own_is : (part : Judged) (own : List BrokenNode) (nodes : List NodeEntry) (next i : ℕ) (d : NodeEntry) → Rises 0 None (map node_key nodes) → i < length nodes → drop next own ≡ broken_by part (drop i nodes)
    → own_of (get_or nodes i d).nid (slice_get own next) ≡ part (get_or nodes i d)
own_is part own nodes next i d r lt so_far =
    let e = get_or nodes i d in
    let here : drop i nodes ≡ e ∷ drop (i + 1) nodes = drop_more nodes i d lt in
    let rises : Rises 0 None (map node_key (e ∷ drop (i + 1) nodes)) = rw here at (rises_drop 0 nodes i r) in
    ap (own_of e.nid) (get_head own next ∙ ap head (so_far ∙ ap (broken_by part) here)) ∙ own_first part e (drop (i + 1) nodes) rises

drop_next : (xs rest : List BrokenNode) (n : ℕ) (b : BrokenNode) → drop n xs ≡ b ∷ rest → drop (n + 1) xs ≡ rest
drop_next [] rest zero b e = absurd cc
drop_next [] rest (suc n) b e = absurd cc
drop_next (x ∷ xs) rest zero b e = cc
drop_next (x ∷ xs) rest (suc n) b e = let s : suc n + 1 ≡ suc (n + 1) = omega arith in rw s (drop_next xs rest n b e)

pub next_own : (part : Judged) (own : List BrokenNode) (nodes : List NodeEntry) (next i : ℕ) (d : NodeEntry) (o : Option Fault) → i < length nodes → part (get_or nodes i d) ≡ o
    → drop next own ≡ broken_by part (drop i nodes) → drop (place_after o next) own ≡ broken_by part (drop (i + 1) nodes)
next_own part own nodes next i d None lt none so_far =
    let e = get_or nodes i d in
    so_far ∙ ap (broken_by part) (drop_more nodes i d lt) ∙ told_first part e (drop (i + 1) nodes) None none
next_own part own nodes next i d (Some f) lt some so_far =
    let e = get_or nodes i d in
    let rest = drop (i + 1) nodes in
    drop_next own (broken_by part rest) next (record { nid = e.nid; fault = f }) (so_far ∙ ap (broken_by part) (drop_more nodes i d lt) ∙ told_first part e rest (Some f) some)

-- ---- a node whose own trees have no fault

pub asked_is : (t : Table) (nodes : List NodeEntry) (broken : List Broken) (e : NodeEntry) (r : Roots) (o : Option Fault) → None ≡ node_fault t e → r ≡ entry_roots e → o ≡ asked_damage t nodes broken r → o ≡ node_damage t nodes broken e
unfolding node_damage
asked_is t nodes broken e r o none is asked = asked ∙ ap (asked_damage t nodes broken) is ∙ sym (then_none (node_fault t e) (asked_damage t nodes broken (entry_roots e)) (sym none))
