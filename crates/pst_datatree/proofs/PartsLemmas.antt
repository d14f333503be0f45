-- The parts of a data tree without fault.
use Rattle.std.proofs.Common.{◌≡◌, ℕ, zero, suc, ◌<◌, Bool, true, false, List, ◌++◌, Some, None, refl, sym, ap, ◌∙◌, arith}
use Rattle.std.specs.Prelude.{if◌then◌else◌}
use Rattle.std.proofs.lemmas.Bool.Decides.{nat_tests}
use Rattle.pst_fault.specs.First.{join_below}
use Rattle.pst_fault.proofs.FirstLemmas.{guard_then}
use Rattle.pst_fault.proofs.EachLemmas.{there_is}
use Rattle.pst_page.specs.declared.entry.BlockEntry.{BlockEntry}
use Rattle.pst_block.specs.Table.{Table, entry_of, body_of}
use Rattle.pst_datatree.specs.declared.named.Named.{Named}
use Rattle.pst_datatree.specs.declared.named.Named.TheVariants.{Nothing, Missing, Data, Xblock, Xxblock}
use Rattle.pst_datatree.specs.Bid.{is_internal, is_no_block}
use Rattle.pst_datatree.specs.List.{count_in, bid_in, has_level_two}
use Rattle.pst_datatree.specs.Named.{named_by}
use Rattle.pst_datatree.specs.Data.{block_missing, bad_tree, xblock_fault, child_spans, child_fault, xxblock_spans, xxblock_fault, named_spans, data_spans, data_fault}
use Rattle.pst_datatree.specs.Parts.{named_count, named_part, part_count, part_in, HasParts}
use Rattle.pst_datatree.proofs.DataLemmas.{child_of_xxblock, tree_none}
use Rattle.pst_datatree.proofs.SeenLemmas.{xblock_of_two}
use Rattle.pst_datatree.proofs.AddLemmas.{internal_same, entry_key}

-- ---- an XBLOCK by its identifier

pub internal_is_block : (bid : ℕ) → is_internal bid ≡ true → is_no_block bid ≡ false
unfolding is_internal is_no_block
internal_is_block bid h = grind (arith, nat_tests)

one_level : (t : Table) (e : BlockEntry) → xblock_fault t e ≡ None → has_level_two (body_of t e) ≡ false
one_level t e none = by_level (has_level_two (body_of t e)) refl
  where
    by_level : (v : Bool) → has_level_two (body_of t e) ≡ v → v ≡ false
    by_level true h = let bad = sym none ∙ xblock_of_two t e h in cc
    by_level false h = refl

names_xblock : (t : Table) (bid : ℕ) (e : BlockEntry) → entry_of t bid ≡ Some e → is_internal bid ≡ true → xblock_fault t e ≡ None → named_by t bid ≡ Xblock e
unfolding named_by
names_xblock t bid e there kind none =
    let same : is_internal e.bid ≡ true = internal_same e.bid bid (entry_key t bid e there) ∙ kind in
    rw (internal_is_block bid kind, there, same, one_level t e none) refl

-- an XBLOCK that an XXBLOCK names
record IsChildOf (t : Table) (e : BlockEntry) (i : ℕ) (x : BlockEntry) : Type 0 where
  there : entry_of t (bid_in (body_of t e) i) ≡ Some x
  kind : is_internal (bid_in (body_of t e) i) ≡ true
  sound : xblock_fault t x ≡ None

child_is : (t : Table) (e : BlockEntry) (i : ℕ) → child_fault t e i ≡ None → (x : BlockEntry) × IsChildOf t e i x
unfolding child_fault
child_is t e i h =
    let bid = bid_in (body_of t e) i in
    let w = there_is (block_missing bid) (λ e'. if is_internal bid then xblock_fault t e' else Some (bad_tree e)) (entry_of t bid) h in
    let g = guard_then (is_internal bid) (xblock_fault t w.0) (bad_tree e) w.2 in
    (w.0, record { there = w.1; kind = g.0; sound = g.1 })

child_named : (t : Table) (e : BlockEntry) (i : ℕ) → child_fault t e i ≡ None → (x : BlockEntry) × IsChildOf t e i x × (named_by t (bid_in (body_of t e) i) ≡ Xblock x)
child_named t e i h = let w = child_is t e i h in (w.0, w.1, names_xblock t (bid_in (body_of t e) i) w.0 w.1.there w.1.kind w.1.sound)

child_sound : (t : Table) (e : BlockEntry) (i : ℕ) → child_fault t e i ≡ None → data_fault t (bid_in (body_of t e) i) ≡ None
unfolding data_fault
child_sound t e i h = let w = child_named t e i h in rw w.2 w.1.sound

child_is_tree : (t : Table) (e : BlockEntry) (i : ℕ) → child_fault t e i ≡ None → child_spans t (body_of t e) i ≡ data_spans t (bid_in (body_of t e) i)
unfolding data_spans child_spans
child_is_tree t e i h = let w = child_named t e i h in rw (w.2, w.1.there) refl

-- ---- parts

-- lists that are the same are joined to the same
join_same : {X : Type 0} (part other : ℕ → List X) (n : ℕ) → ((i : ℕ) → i < n → part i ≡ other i) → join_below part n ≡ join_below other n
join_same part other zero h = refl
join_same part other (suc n) h =
    ap (λ xs. xs ++ part n) (join_same part other n (λ i lt. h i (omega arith))) ∙ ap (λ xs. join_below other n ++ xs) (h n (omega arith))

pub part_sound : (t : Table) (bid i : ℕ) → data_fault t bid ≡ None → i < part_count t bid → data_fault t (part_in t bid i) ≡ None
unfolding part_count part_in
part_sound t bid i none lt = by_name (named_by t bid) refl lt
  where
    by_name : (n : Named) → n ≡ named_by t bid → i < named_count t n → data_fault t (named_part t bid n i) ≡ None
    by_name Nothing is lt = none
    by_name Missing is lt = none
    by_name (Data e) is lt = none
    by_name (Xblock e) is lt = none
    by_name (Xxblock e) is lt = child_sound t e i (child_of_xxblock t e (tree_none t bid (Xxblock e) is none) i lt)

pub named_are : (t : Table) (bid : ℕ) (n : Named) → n ≡ named_by t bid → data_spans t bid ≡ named_spans t n
unfolding data_spans
named_are t bid n is = rw is refl

two_joined : (t : Table) (e : BlockEntry) → xxblock_fault t e ≡ None → xxblock_spans t e ≡ join_below (λ i. data_spans t (bid_in (body_of t e) i)) (count_in (body_of t e))
unfolding xxblock_spans
two_joined t e none =
    join_same (child_spans t (body_of t e)) (λ i. data_spans t (bid_in (body_of t e) i)) (count_in (body_of t e)) (λ i lt. child_is_tree t e i (child_of_xxblock t e none i lt))

pub has_parts : (t : Table) (bid : ℕ) → data_fault t bid ≡ None → HasParts t bid
unfolding part_count part_in
has_parts t bid none = by_name (named_by t bid) refl
  where
    by_name : (n : Named) → n ≡ named_by t bid → data_spans t bid ≡ join_below (λ i. data_spans t (named_part t bid n i)) (named_count t n)
    by_name Nothing is = refl
    by_name Missing is = refl
    by_name (Data e) is = refl
    by_name (Xblock e) is = refl
    by_name (Xxblock e) is = named_are t bid (Xxblock e) is ∙ two_joined t e (tree_none t bid (Xxblock e) is none)
