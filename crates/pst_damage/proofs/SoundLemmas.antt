-- Of nodes whose identifiers rise, the sound ones are those of which nothing is told; and a list of one node.
use Rattle.std.proofs.Common.{◌≡◌, ℕ, ◌+◌, ◌<◌, Bool, true, false, List, [], ◌∷◌, map, Option, Some, None, refl, sym, ap, ◌∙◌, arith}
use Rattle.std.specs.Prelude.{nat_eq, option_map}
use Rattle.std.proofs.lemmas.Bool.Decides.{nat_tests}
use Rattle.pst_fault.specs.declared.fault.Fault.{Fault}
use Rattle.pst_fault.specs.Each.{first_of, if_there}
use Rattle.pst_fault.proofs.FirstLemmas.{then_none}
use Rattle.pst_page.specs.declared.entry.NodeEntry.{NodeEntry}
use Rattle.pst_btree.specs.Entries.{node_key, node_with}
use Rattle.pst_btree.specs.Order.{Rises}
use Rattle.pst_block.specs.Table.{Table}
use Rattle.pst_ndb.specs.Fault.{node_fault, nodes_fault}
use Rattle.pst_ndb.specs.Roots.{Roots, entry_roots, node_in}
use Rattle.pst_damage.specs.declared.broken.BrokenNode.{BrokenNode}
use Rattle.pst_damage.specs.Judged.{Judged, kept_node, told_node, sound_by, broken_by, sound_nodes}
use Rattle.pst_damage.specs.Laws.{told_nid, fault_told}
use Rattle.pst_damage.proofs.NodeLaws.{none_with, with_by_test, told_among, same_nid, none_of_found}

-- ---- those that are told rise

lower_told : (low less : ℕ) (told : List BrokenNode) → less < low + 1 → Rises low None (map told_nid told) → Rises less None (map told_nid told)
lower_told low less [] le r = tt
lower_told low less (b ∷ rest) le r = (omega (arith, le, r.0), r.1, r.2)

told_rises : (part : Judged) (low : ℕ) (nodes : List NodeEntry) → Rises low None (map node_key nodes) → Rises low None (map told_nid (broken_by part nodes))
unfolding broken_by
told_rises part low [] r = tt
told_rises part low (e ∷ rest) r = told (part e) (told_rises part (e.nid + 1) rest r.2)
  where
    told : (o : Option Fault) → Rises (e.nid + 1) None (map told_nid (broken_by part rest)) → Rises low None (map told_nid (told_node o e (broken_by part rest)))
    told None more = lower_told (e.nid + 1) low (broken_by part rest) (omega (arith, r.0)) more
    told (Some f) more = (r.0, r.1, more)

pub own_rise : (t : Table) (nodes : List NodeEntry) (own : List BrokenNode) → Rises 0 None (map node_key nodes) → own ≡ broken_by (node_fault t) nodes → Rises 0 None (map told_nid own)
own_rise t nodes own r is = rw is (told_rises (node_fault t) 0 nodes r)

-- ---- a node among the sound ones

sound_behind : (part : Judged) (nid low : ℕ) (nodes : List NodeEntry) → nid < low → Rises low None (map node_key nodes) → node_with nid (sound_by part nodes) ≡ None
unfolding sound_by
sound_behind part nid low [] lt r = none_with nid
sound_behind part nid low (e ∷ rest) lt r = kept (part e) (sound_behind part nid (e.nid + 1) rest (omega (arith, lt, r.0)) r.2)
  where
    other : (a b : ℕ) → b < a → nat_eq a b ≡ false
    other a b lt = grind (arith, nat_tests, lt)

    kept : (o : Option Fault) → node_with nid (sound_by part rest) ≡ None → node_with nid (kept_node o e (sound_by part rest)) ≡ None
    kept None more = with_by_test nid e (sound_by part rest) false (other e.nid nid (omega (arith, lt, r.0))) ∙ more
    kept (Some f) more = more

-- a node that is there, where its fault is None
abbrev unless : Option Fault → NodeEntry → Option NodeEntry
unless None e = Some e
unless (Some f) e = None

abbrev sound_of : Judged → Option NodeEntry → Option NodeEntry
sound_of part None = None
sound_of part (Some e) = unless (part e) e

sound_among : (part : Judged) (nid low : ℕ) (nodes : List NodeEntry) → Rises low None (map node_key nodes) → node_with nid (sound_by part nodes) ≡ sound_of part (node_with nid nodes)
unfolding sound_by
sound_among part nid low [] r = none_with nid ∙ ap (sound_of part) (sym (none_with nid))
sound_among part nid low (e ∷ rest) r = by_test (nat_eq e.nid nid) refl (part e) refl (sound_among part nid (e.nid + 1) rest r.2)
  where
    by_test : (v : Bool) → nat_eq e.nid nid ≡ v → (o : Option Fault) → part e ≡ o → node_with nid (sound_by part rest) ≡ sound_of part (node_with nid rest)
        → node_with nid (kept_node o e (sound_by part rest)) ≡ sound_of part (node_with nid (e ∷ rest))
    by_test true h None is more =
        with_by_test nid e (sound_by part rest) true h ∙ sym (ap (λ o. unless o e) is) ∙ ap (sound_of part) (sym (with_by_test nid e rest true h))
    by_test true h (Some f) is more =
        let same : e.nid ≡ nid = grind (arith, nat_tests, h) in
        sound_behind part nid (e.nid + 1) rest (omega (arith, same)) r.2 ∙ sym (ap (λ o. unless o e) is) ∙ ap (sound_of part) (sym (with_by_test nid e rest true h))
    by_test false h None is more = with_by_test nid e (sound_by part rest) false h ∙ more ∙ ap (sound_of part) (sym (with_by_test nid e rest false h))
    by_test false h (Some f) is more = more ∙ ap (sound_of part) (sym (with_by_test nid e rest false h))

told_lacks : (part : Judged) (o : Option NodeEntry) (f : Fault) → Some f ≡ if_there part o → None ≡ sound_of part o
told_lacks part None f is = refl
told_lacks part (Some e) f is = sym (ap (λ x. unless x e) (sym is))

untold_is : (part : Judged) (o : Option NodeEntry) → None ≡ if_there part o → o ≡ sound_of part o
untold_is part None is = refl
untold_is part (Some e) is = sym (ap (λ x. unless x e) (sym is))

-- Where something is told of it, it is not among them; else they have it where the nodes have it.
pub sound_told : (t : Table) (nodes : List NodeEntry) (own : List BrokenNode) (nid : ℕ) (f : Fault) → Rises 0 None (map node_key nodes) → own ≡ broken_by (node_fault t) nodes → Some f ≡ fault_told nid own
    → None ≡ node_with nid (sound_nodes t nodes)
sound_told t nodes own nid f r is told =
    let part = node_fault t in
    told_lacks part (node_with nid nodes) f (told ∙ ap (fault_told nid) is ∙ told_among part nid 0 nodes r) ∙ sym (sound_among part nid 0 nodes r)

pub sound_untold : (t : Table) (nodes : List NodeEntry) (own : List BrokenNode) (nid : ℕ) → Rises 0 None (map node_key nodes) → own ≡ broken_by (node_fault t) nodes → None ≡ fault_told nid own
    → node_with nid nodes ≡ node_with nid (sound_nodes t nodes)
sound_untold t nodes own nid r is untold =
    let part = node_fault t in
    untold_is part (node_with nid nodes) (untold ∙ ap (fault_told nid) is ∙ told_among part nid 0 nodes r) ∙ sym (sound_among part nid 0 nodes r)

pub sound_none : (t : Table) (nodes : List NodeEntry) → nodes_fault t (sound_nodes t nodes) ≡ None
unfolding sound_by first_of
sound_none t [] = refl
sound_none t (e ∷ rest) = kept (node_fault t e) refl (sound_none t rest)
  where
    kept : (o : Option Fault) → node_fault t e ≡ o → nodes_fault t (sound_nodes t rest) ≡ None → nodes_fault t (kept_node o e (sound_nodes t rest)) ≡ None
    kept None is more = then_none (node_fault t e) (nodes_fault t (sound_nodes t rest)) is ∙ more
    kept (Some f) is more = more

-- what is found among them has no fault
pub found_none : (t : Table) (nodes : List NodeEntry) (nid : ℕ) (e : NodeEntry) → Some e ≡ node_with nid (sound_nodes t nodes) → node_fault t e ≡ None
found_none t nodes nid e found = none_of_found (node_fault t) nid (sound_nodes t nodes) e (sound_none t nodes) (sym found)

-- ---- a list of one node

pub one_rises : (list : List NodeEntry) (e : NodeEntry) → list ≡ e ∷ [] → Rises 0 None (map node_key list)
one_rises list e is = rw is (omega arith, refl, tt)

pub one_sound : (t : Table) (list : List NodeEntry) (e : NodeEntry) → list ≡ e ∷ [] → node_fault t e ≡ None → nodes_fault t list ≡ None
unfolding first_of
one_sound t list e is none = rw is (then_none (node_fault t e) None none)

one_there : (e : NodeEntry) → node_in (e ∷ []) e.nid ≡ Some (entry_roots e)
unfolding node_in
one_there e = ap (option_map entry_roots) (with_by_test e.nid e [] true (same_nid e.nid))

pub one_lacks : (list : List NodeEntry) (e : NodeEntry) → list ≡ e ∷ [] → None ≡ node_in list e.nid → ⊥
one_lacks list e is lacks = let there = one_there e in absurd cc

pub one_found : (list : List NodeEntry) (e : NodeEntry) (r : Roots) → list ≡ e ∷ [] → Some r ≡ node_in list e.nid → r ≡ entry_roots e
one_found list e r is found = let there = one_there e in cc
