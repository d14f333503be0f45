-- What a data tree without fault has.
use Rattle.std.proofs.Common.{◌≡◌, ℕ, zero, suc, ◌+◌, ◌*◌, ◌<◌, ◌≤◌, true, List, length, Option, Some, None, refl, ap, ◌∙◌, arith, length-append, subst}
use Rattle.std.specs.Prelude.{slice_get, if◌then◌else◌}
use Rattle.std.proofs.lemmas.Bool.Decides.{nat_tests}
use Rattle.pst_fault.specs.declared.fault.Fault.{Fault}
use Rattle.pst_fault.specs.First.{◌then◌, holds_or, first_below, join_below}
use Rattle.pst_fault.proofs.FirstLemmas.{none_then, none_below, first_below_front, slice_get-join, holds_or_none, guard_then}
use Rattle.pst_fault.proofs.GeneralLemmas.{number_of_test}
use Rattle.pst_page.specs.declared.entry.BlockEntry.{BlockEntry}
use Rattle.pst_block.specs.Table.{Table, entry_of, body_of}
use Rattle.pst_datatree.specs.declared.named.Named.{Named}
use Rattle.pst_datatree.specs.declared.named.Named.TheVariants.{Nothing, Missing, Data, Xblock, Xxblock}
use Rattle.pst_datatree.specs.Bid.{is_internal}
use Rattle.pst_datatree.specs.List.{count_in, total_in, bid_in, is_block_list}
use Rattle.pst_datatree.specs.Named.{named_by}
use Rattle.pst_datatree.specs.Data.{size_of, block_missing, bad_tree, leaf_spans, data_leaf_fault, xblock_spans, xblock_fault, child_fault, xxblock_spans, xxblock_fault, named_fault, tree_fault, data_fault}
use Rattle.pst_fault.proofs.EachLemmas.{there_is}

pub list_fits : (level : ℕ) (body : List ℕ) → is_block_list level body ≡ true → 8 + 8 * count_in body ≤ length body
unfolding is_block_list
list_fits level body e = grind (arith, nat_tests)

-- an XBLOCK without fault
pub record IsSound (fault : ℕ → Option Fault) (t : Table) (e : BlockEntry) : Type 0 where
  pub fits : 8 + 8 * count_in (body_of t e) ≤ length (body_of t e)
  pub parts : first_below fault (count_in (body_of t e)) ≡ None

pub sound_xblock : (t : Table) (e : BlockEntry) → xblock_fault t e ≡ None → IsSound (data_leaf_fault t e) t e
unfolding xblock_fault
sound_xblock t e h =
    let body = body_of t e in
    let p = none_then (holds_or (is_block_list 1 body) (bad_tree e)) _ h in
    let q = none_then (first_below (data_leaf_fault t e) (count_in body)) _ p.1 in
    record { fits = list_fits 1 body (holds_or_none _ _ p.0); parts = q.0 }

-- an XXBLOCK without fault
pub sound_xxblock : (t : Table) (e : BlockEntry) → xxblock_fault t e ≡ None → IsSound (child_fault t e) t e
unfolding xxblock_fault
sound_xxblock t e h =
    let body = body_of t e in
    let p = none_then (holds_or (is_block_list 2 body) (bad_tree e)) _ h in
    let q = none_then (first_below (child_fault t e) (count_in body)) _ p.1 in
    record { fits = list_fits 2 body (holds_or_none _ _ p.0); parts = q.0 }

-- a data block that an XBLOCK names
pub one_leaf : (t : Table) (e : BlockEntry) (i : ℕ) → data_leaf_fault t e i ≡ None → length (leaf_spans t (body_of t e) i) ≡ 1
unfolding data_leaf_fault leaf_spans
one_leaf t e i h =
    let bid = bid_in (body_of t e) i in
    let w = there_is (block_missing bid) (λ _. if is_internal bid then Some (bad_tree e) else None) (entry_of t bid) h in
    rw w.1 refl

-- the XBLOCK that an XXBLOCK names
pub one_child : (t : Table) (e : BlockEntry) (i : ℕ) → child_fault t e i ≡ None → (x : BlockEntry) × (entry_of t (bid_in (body_of t e) i) ≡ Some x) × (xblock_fault t x ≡ None)
unfolding child_fault
one_child t e i h =
    let bid = bid_in (body_of t e) i in
    let w = there_is (block_missing bid) (λ e'. if is_internal bid then xblock_fault t e' else Some (bad_tree e)) (entry_of t bid) h in
    (w.0, w.1, (guard_then (is_internal bid) (xblock_fault t w.0) (bad_tree e) w.2).1)

pub length_leaves : (t : Table) (e : BlockEntry) (n : ℕ) → first_below (data_leaf_fault t e) n ≡ None → length (join_below (leaf_spans t (body_of t e)) n) ≡ n
length_leaves t e zero h = refl
length_leaves t e (suc n) h =
    let both = none_then (first_below (data_leaf_fault t e) n) (data_leaf_fault t e n) h in
    omega (arith, length-append (join_below (leaf_spans t (body_of t e)) n) (leaf_spans t (body_of t e) n), length_leaves t e n both.0, one_leaf t e n both.1)

-- ---- the spans of an XBLOCK by their numbers

pub length_xblock : (t : Table) (e : BlockEntry) → xblock_fault t e ≡ None → length (xblock_spans t e) ≡ count_in (body_of t e)
unfolding xblock_spans
length_xblock t e h = length_leaves t e (count_in (body_of t e)) (sound_xblock t e h).parts

pub xblock_fits : (t : Table) (e : BlockEntry) → xblock_fault t e ≡ None → 8 + 8 * count_in (body_of t e) ≤ length (body_of t e)
xblock_fits t e h = (sound_xblock t e h).fits

pub xblock_head : (t : Table) (e : BlockEntry) → xblock_fault t e ≡ None → 8 ≤ length (body_of t e)
xblock_head t e h = omega (arith, xblock_fits t e h)

pub xblock_room : (t : Table) (e : BlockEntry) (i : ℕ) → xblock_fault t e ≡ None → i < length (xblock_spans t e) → 16 + 8 * i ≤ length (body_of t e)
xblock_room t e i h lt = omega (arith, xblock_fits t e h, length_xblock t e h)

pub leaf_of_xblock : (t : Table) (e : BlockEntry) (i : ℕ) → xblock_fault t e ≡ None → i < length (xblock_spans t e) → data_leaf_fault t e i ≡ None
leaf_of_xblock t e i h lt = none_below (data_leaf_fault t e) (count_in (body_of t e)) i (sound_xblock t e h).parts (omega (arith, length_xblock t e h))

span_in_xblock : (t : Table) (e : BlockEntry) (i : ℕ) → xblock_fault t e ≡ None → i < count_in (body_of t e) → slice_get (xblock_spans t e) i ≡ slice_get (leaf_spans t (body_of t e) i) 0
unfolding xblock_spans
span_in_xblock t e i h lt =
    let s = sound_xblock t e h in
    let none = none_below (data_leaf_fault t e) (count_in (body_of t e)) i s.parts lt in
    let one = one_leaf t e i none in
    let before = length_leaves t e i (first_below_front (data_leaf_fault t e) (count_in (body_of t e)) i s.parts (omega arith)) in
    let at = slice_get-join (leaf_spans t (body_of t e)) (count_in (body_of t e)) i 0 lt (omega arith) in
    ap (slice_get (join_below (leaf_spans t (body_of t e)) (count_in (body_of t e)))) (omega (arith, before)) ∙ at

pub span_of_xblock : (t : Table) (e : BlockEntry) (i : ℕ) → xblock_fault t e ≡ None → i < length (xblock_spans t e) → slice_get (xblock_spans t e) i ≡ slice_get (leaf_spans t (body_of t e) i) 0
span_of_xblock t e i h lt = span_in_xblock t e i h (omega (arith, length_xblock t e h))

-- ---- the XBLOCKs of an XXBLOCK

pub sound_child : (t : Table) (e x : BlockEntry) (i : ℕ) → entry_of t (bid_in (body_of t e) i) ≡ Some x → child_fault t e i ≡ None → xblock_fault t x ≡ None
sound_child t e x i h none = let w = one_child t e i none in let same : w.0 ≡ x = cc in subst (λ y. xblock_fault t y ≡ None) same w.2

pub xxblock_fits : (t : Table) (e : BlockEntry) → xxblock_fault t e ≡ None → 8 + 8 * count_in (body_of t e) ≤ length (body_of t e)
xxblock_fits t e h = (sound_xxblock t e h).fits

pub xxblock_head : (t : Table) (e : BlockEntry) → xxblock_fault t e ≡ None → 8 ≤ length (body_of t e)
xxblock_head t e h = omega (arith, xxblock_fits t e h)

pub child_of_xxblock : (t : Table) (e : BlockEntry) → xxblock_fault t e ≡ None → (i : ℕ) → i < count_in (body_of t e) → child_fault t e i ≡ None
child_of_xxblock t e h i lt = none_below (child_fault t e) (count_in (body_of t e)) i (sound_xxblock t e h).parts lt

-- ---- how many bytes an XBLOCK or XXBLOCK has

pub total_of_xblock : (t : Table) (e : BlockEntry) → xblock_fault t e ≡ None → size_of (xblock_spans t e) ≡ total_in (body_of t e)
unfolding xblock_fault
total_of_xblock t e h =
    let body = body_of t e in
    let p = none_then (holds_or (is_block_list 1 body) (bad_tree e)) _ h in
    let q = none_then (first_below (data_leaf_fault t e) (count_in body)) _ p.1 in
    number_of_test _ _ (holds_or_none _ _ q.1)

pub total_of_xxblock : (t : Table) (e : BlockEntry) → xxblock_fault t e ≡ None → size_of (xxblock_spans t e) ≡ total_in (body_of t e)
unfolding xxblock_fault
total_of_xxblock t e h =
    let body = body_of t e in
    let p = none_then (holds_or (is_block_list 2 body) (bad_tree e)) _ h in
    let q = none_then (first_below (child_fault t e) (count_in body)) _ p.1 in
    number_of_test _ _ (holds_or_none _ _ q.1)

-- ---- within the block that an identifier names

pub tree_none : (t : Table) (bid : ℕ) (named : Named) → named ≡ named_by t bid → data_fault t bid ≡ None → tree_fault t named ≡ None
unfolding data_fault
tree_none t bid named is h = by_name named (rw is h)
  where
    by_name : (n : Named) → named_fault t bid n ≡ None → tree_fault t n ≡ None
    by_name Nothing h = refl
    by_name Missing h = refl
    by_name (Data e) h = refl
    by_name (Xblock e) h = h
    by_name (Xxblock e) h = h
