-- All spans of a data tree lie in the file.
use Rattle.std.proofs.Common.{◌≡◌, ℕ, zero, suc, ◌+◌, ◌-◌, ◌≤◌, min, Bool, true, false, List, [], ◌∷◌, ◌++◌, length, drop, Option, Some, None, refl, arith, inl, inr}
use Rattle.std.proofs.lemmas.Bool.{cases_lt}
use Rattle.pst_bytes.specs.declared.span.Span.{Span}
use Rattle.pst_fault.specs.First.{join_below, join_from}
use Rattle.pst_page.specs.declared.entry.BlockEntry.{BlockEntry}
use Rattle.pst_block.specs.Table.{Table, entry_of, body_of, IsWithin, AreWithin}
use Rattle.pst_datatree.specs.declared.position.Position.{Position}
use Rattle.pst_datatree.specs.declared.named.Named.{Named}
use Rattle.pst_datatree.specs.declared.named.Named.TheVariants.{Nothing, Missing, Data, Xblock, Xxblock}
use Rattle.pst_datatree.specs.List.{count_in, bid_in}
use Rattle.pst_datatree.specs.Named.{named_by, IfBlock}
use Rattle.pst_datatree.specs.Data.{spans_at, data_block_spans, leaf_spans, xblock_spans, child_spans, data_spans}
use Rattle.pst_datatree.specs.Spans.{AreInside}
use Rattle.pst_datatree.specs.Cut.{cut, shown}
use Rattle.pst_datatree.specs.Position.{xblock_left, xxblock_left, named_left}
use Rattle.pst_datatree.proofs.NamedLemmas.{IsNamed, named_is}
use Rattle.pst_datatree.proofs.CutLemmas.{cut_with, cut_without, cut_nil}
use Rattle.pst_datatree.proofs.PositionLemmas.{named_from_start}

both_inside : (I : List ℕ) (xs ys : List Span) → AreInside I xs → AreInside I ys → AreInside I (xs ++ ys)
both_inside I [] ys h k = k
both_inside I (x ∷ xs) ys h k = (h.0, both_inside I xs ys h.1 k)

below_inside : (I : List ℕ) (part : ℕ → List Span) (n : ℕ) → ((i : ℕ) → AreInside I (part i)) → AreInside I (join_below part n)
below_inside I part zero h = tt
below_inside I part (suc n) h = both_inside I (join_below part n) (part n) (below_inside I part n h) (h n)

from_inside : (I : List ℕ) (part : ℕ → List Span) (i n : ℕ) → ((i : ℕ) → AreInside I (part i)) → AreInside I (join_from part i n)
unfolding join_from
from_inside I part i zero h = tt
from_inside I part i (suc n) h = both_inside I (part i) (join_from part (i + 1) n) (h i) (from_inside I part (i + 1) n h)

drop_inside : (I : List ℕ) (n : ℕ) (xs : List Span) → AreInside I xs → AreInside I (drop n xs)
drop_inside I zero xs h = h
drop_inside I (suc n) [] h = h
drop_inside I (suc n) (x ∷ xs) h = drop_inside I n xs h.1

cut_inside : (I : List ℕ) (from to : ℕ) (xs : List Span) → AreInside I xs → AreInside I (cut from to xs)
cut_inside I from to [] h = rw (cut_nil from to) tt
cut_inside I from to (x ∷ rest) h =
    elim (cases_lt (min from x.len) (min to x.len)) [
      | inl lt ↦ let inside : x.at + x.len ≤ length I = h.0 in rw (cut_with from to x rest lt) ((omega arith), cut_inside I (from - x.len) (to - x.len) rest h.1)
      | inr le ↦ rw (cut_without from to x rest le) (cut_inside I (from - x.len) (to - x.len) rest h.1)
    ]

-- ---- the spans of a table of blocks that lie in the file

at_inside : (t : Table) (bid : ℕ) (spans : BlockEntry → List Span) (o : Option BlockEntry) → o ≡ entry_of t bid → ((e : BlockEntry) → entry_of t bid ≡ Some e → AreInside t.image (spans e)) → AreInside t.image (spans_at spans o)
at_inside t bid spans None is h = tt
at_inside t bid spans (Some e) is h = h e (sym_of is)
  where
    sym_of : Some e ≡ entry_of t bid → entry_of t bid ≡ Some e
    sym_of p = cc

block_inside : (t : Table) (bid : ℕ) (e : BlockEntry) → AreWithin t → entry_of t bid ≡ Some e → AreInside t.image (data_block_spans e)
block_inside t bid e within is = (within bid e is, tt)

leaf_inside : (t : Table) (body : List ℕ) (i : ℕ) → AreWithin t → AreInside t.image (leaf_spans t body i)
unfolding leaf_spans
leaf_inside t body i within = at_inside t (bid_in body i) data_block_spans (entry_of t (bid_in body i)) refl (λ e. block_inside t (bid_in body i) e within)

xblock_inside : (t : Table) (e : BlockEntry) → AreWithin t → AreInside t.image (xblock_spans t e)
unfolding xblock_spans
xblock_inside t e within = below_inside t.image (leaf_spans t (body_of t e)) (count_in (body_of t e)) (λ i. leaf_inside t (body_of t e) i within)

child_inside : (t : Table) (body : List ℕ) (i : ℕ) → AreWithin t → AreInside t.image (child_spans t body i)
unfolding child_spans
child_inside t body i within = at_inside t (bid_in body i) (xblock_spans t) (entry_of t (bid_in body i)) refl (λ e is. xblock_inside t e within)

xxblock_inside : (t : Table) (e : BlockEntry) (at : Position) → AreWithin t → AreInside t.image (xxblock_left t e at)
unfolding xxblock_left
xxblock_inside t e at within =
    let part = child_spans t (body_of t e) in
    let count = count_in (body_of t e) - at.child in
    drop_inside t.image at.leaf (join_from part at.child count) (from_inside t.image part at.child count (λ i. child_inside t (body_of t e) i within))

named_inside : (t : Table) (named : Named) (at : Position) → AreWithin t → IfBlock named (IsWithin t.image) → AreInside t.image (named_left t named at)
unfolding xblock_left
named_inside t Nothing at within there = tt
named_inside t Missing at within there = tt
named_inside t (Data e) at within there = drop_inside t.image at.leaf (data_block_spans e) (there, tt)
named_inside t (Xblock e) at within there = drop_inside t.image at.leaf (xblock_spans t e) (xblock_inside t e within)
named_inside t (Xxblock e) at within there = xxblock_inside t e at within

-- what is shown of them, too
pub shown_inside : (t : Table) (named : Named) (at : Position) (whole : Bool) (skip left : ℕ) → AreWithin t → IfBlock named (IsWithin t.image) → AreInside t.image (shown whole skip left (named_left t named at))
shown_inside t named at true skip left within there = named_inside t named at within there
shown_inside t named at false skip left within there = cut_inside t.image skip (skip + left) (named_left t named at) (named_inside t named at within there)

-- the block that an identifier names, if it names one
block_there : (t : Table) (bid : ℕ) (named : Named) → AreWithin t → IsNamed t bid named → IfBlock named (IsWithin t.image)
block_there t bid Nothing within is = tt
block_there t bid Missing within is = tt
block_there t bid (Data e) within is = within bid e is.0.1
block_there t bid (Xblock e) within is = within bid e is.0.1
block_there t bid (Xxblock e) within is = within bid e is.0.1

-- all spans of a data tree
pub data_spans_inside : (t : Table) (bid : ℕ) → AreWithin t → AreInside t.image (data_spans t bid)
unfolding data_spans
data_spans_inside t bid within =
    let named = named_by t bid in
    rw (← named_from_start t named) (named_inside t named (record { child = 0; leaf = 0 }) within (block_there t bid named within (named_is t bid)))
