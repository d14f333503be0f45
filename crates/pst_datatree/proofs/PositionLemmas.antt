-- What is left of a data tree, from one position to the next.
use Rattle.std.proofs.Common.{◌≡◌, ℕ, zero, suc, ◌+◌, ◌-◌, ◌<◌, ◌≤◌, List, [], ◌∷◌, ◌++◌, length, drop, Some, None, refl, sym, ap, ◌∙◌, arith, add-one}
use Rattle.std.specs.Prelude.{slice_get}
use Rattle.std.proofs.lemmas.List.{drop_all, append-nil, append_assoc}
use Rattle.pst_bytes.specs.declared.span.Span.{Span}
use Rattle.pst_fault.specs.First.{join_below, join_from}
use Rattle.pst_page.specs.declared.entry.BlockEntry.{BlockEntry}
use Rattle.pst_block.specs.Block.{body_span}
use Rattle.pst_block.specs.Table.{Table, body_of}
use Rattle.pst_datatree.specs.declared.position.Position.{Position}
use Rattle.pst_datatree.specs.declared.named.Named.{Named}
use Rattle.pst_datatree.specs.declared.named.Named.TheVariants.{Nothing, Missing, Data, Xblock, Xxblock}
use Rattle.pst_datatree.specs.List.{count_in}
use Rattle.pst_datatree.specs.Data.{data_block_spans, leaf_spans, xblock_spans, xblock_fault, child_spans, xxblock_spans, named_spans}
use Rattle.pst_datatree.specs.Position.{xblock_left, xxblock_left, named_left}
use Rattle.pst_datatree.proofs.DataLemmas.{span_of_xblock}

-- ---- lists

-- an element, and what is behind it
drop_suc : {X : Type 0} (xs : List X) (n : ℕ) (x : X) → slice_get xs n ≡ Some x → drop n xs ≡ x ∷ drop (suc n) xs
drop_suc [] n x h = cc
drop_suc (y ∷ xs) zero x h = cc
drop_suc (y ∷ xs) (suc n) x h = drop_suc xs n x h

pub drop_next : {X : Type 0} (xs : List X) (n : ℕ) (x : X) → slice_get xs n ≡ Some x → drop n xs ≡ x ∷ drop (n + 1) xs
drop_next xs n x h = rw add-one (drop_suc xs n x h)

get_left : {X : Type 0} (xs ys : List X) (i : ℕ) (x : X) → slice_get xs i ≡ Some x → slice_get (xs ++ ys) i ≡ Some x
get_left [] ys i x h = cc
get_left (y ∷ xs) ys zero x h = h
get_left (y ∷ xs) ys (suc i) x h = get_left xs ys i x h

pub drop_past : {X : Type 0} (xs ys : List X) (n : ℕ) → length xs ≤ n → drop n (xs ++ ys) ≡ drop (n - length xs) ys
drop_past [] ys n h = ap (λ m. drop m ys) (omega arith)
drop_past (x ∷ xs) ys zero h = absurd (omega arith)
drop_past (x ∷ xs) ys (suc n) h = let same : n - length xs ≡ suc n - length (x ∷ xs) = omega arith in rw (← same) (drop_past xs ys n (omega arith))

-- ---- parts from a number on

pub from_step : {X : Type 0} (part : ℕ → List X) (i n : ℕ) → i < n → join_from part i (n - i) ≡ part i ++ join_from part (i + 1) (n - (i + 1))
unfolding join_from
from_step part i n h = let more : n - i ≡ suc (n - (i + 1)) = omega arith in rw more refl

from_end : {X : Type 0} (part : ℕ → List X) (i n : ℕ) → n ≤ i → join_from part i (n - i) ≡ []
unfolding join_from
from_end part i n h = let none : n - i ≡ 0 = omega arith in rw none refl

-- the parts below a number, and those from it on
front_and_rest : {X : Type 0} (part : ℕ → List X) (i n : ℕ) → join_below part i ++ join_from part i n ≡ join_below part (i + n)
unfolding join_from
front_and_rest part i zero = let same : i ≡ i + 0 = omega arith in append-nil (join_below part i) ∙ ap (λ m. join_below part m) same
front_and_rest part i (suc n) =
    let one : join_below part (i + 1) ≡ join_below part i ++ part i = rw add-one refl in
    let same : i + 1 + n ≡ i + suc n = omega arith in
    sym (append_assoc (join_below part i) (part i) (join_from part (i + 1) n))
    ∙ ap (λ xs. xs ++ join_from part (i + 1) n) (sym one)
    ∙ front_and_rest part (i + 1) n
    ∙ ap (λ m. join_below part m) same

-- ---- an XBLOCK

pub xblock_next : (t : Table) (e : BlockEntry) (at : Position) (s : Span) → xblock_fault t e ≡ None → at.leaf < length (xblock_spans t e) → leaf_spans t (body_of t e) at.leaf ≡ s ∷ [] → xblock_left t e at ≡ s ∷ xblock_left t e (record { child = at.child; leaf = at.leaf + 1 })
unfolding xblock_left
xblock_next t e at s h lt one = drop_next (xblock_spans t e) at.leaf s (span_of_xblock t e at.leaf h lt ∙ ap (λ xs. slice_get xs 0) one)

pub xblock_end : (t : Table) (e : BlockEntry) (at : Position) → length (xblock_spans t e) ≤ at.leaf → xblock_left t e at ≡ []
unfolding xblock_left
xblock_end t e at h = drop_all at.leaf (xblock_spans t e) h

-- ---- an XXBLOCK

-- a span of the XBLOCK at the position
pub xxblock_next : (t : Table) (e x : BlockEntry) (at : Position) (s : Span) → at.child < count_in (body_of t e) → child_spans t (body_of t e) at.child ≡ xblock_spans t x → xblock_fault t x ≡ None → at.leaf < length (xblock_spans t x) → leaf_spans t (body_of t x) at.leaf ≡ s ∷ [] → xxblock_left t e at ≡ s ∷ xxblock_left t e (record { child = at.child; leaf = at.leaf + 1 })
unfolding xxblock_left
xxblock_next t e x at s lt is h below one =
    let part = child_spans t (body_of t e) in
    let n = count_in (body_of t e) in
    let here : slice_get (part at.child) at.leaf ≡ Some s = ap (λ xs. slice_get xs at.leaf) is ∙ (span_of_xblock t x at.leaf h below ∙ ap (λ xs. slice_get xs 0) one) in
    let split = from_step part at.child n lt in
    drop_next (join_from part at.child (n - at.child)) at.leaf s (ap (λ xs. slice_get xs at.leaf) split ∙ get_left (part at.child) (join_from part (at.child + 1) (n - (at.child + 1))) at.leaf s here)

-- no more span of it: the next XBLOCK
pub xxblock_pass : (t : Table) (e x : BlockEntry) (at : Position) → at.child < count_in (body_of t e) → child_spans t (body_of t e) at.child ≡ xblock_spans t x → length (xblock_spans t x) ≤ at.leaf → xxblock_left t e at ≡ xxblock_left t e (record { child = at.child + 1; leaf = at.leaf - length (xblock_spans t x) })
unfolding xxblock_left
xxblock_pass t e x at lt is past =
    let part = child_spans t (body_of t e) in
    let n = count_in (body_of t e) in
    let rest = join_from part (at.child + 1) (n - (at.child + 1)) in
    ap (drop at.leaf) (from_step part at.child n lt ∙ ap (λ xs. xs ++ rest) is)
    ∙ drop_past (xblock_spans t x) rest at.leaf past

pub xxblock_end : (t : Table) (e : BlockEntry) (at : Position) → count_in (body_of t e) ≤ at.child → xxblock_left t e at ≡ []
unfolding xxblock_left
xxblock_end t e at h = ap (drop at.leaf) (from_end (child_spans t (body_of t e)) at.child (count_in (body_of t e)) h) ∙ drop_all at.leaf [] (omega arith)

-- from the first XBLOCK on
pub xxblock_from : (t : Table) (e : BlockEntry) (n : ℕ) → xxblock_left t e (record { child = 0; leaf = n }) ≡ drop n (xxblock_spans t e)
unfolding xxblock_left xxblock_spans
xxblock_from t e n =
    let part = child_spans t (body_of t e) in
    let count = count_in (body_of t e) in
    let same : 0 + (count - 0) ≡ count = omega arith in
    let all : join_from part 0 (count - 0) ≡ join_below part count = front_and_rest part 0 (count - 0) ∙ ap (λ m. join_below part m) same in
    ap (drop n) all

-- ---- a data block

pub data_block_next : (t : Table) (e : BlockEntry) (at : Position) → at.leaf ≡ 0 → drop at.leaf (data_block_spans e) ≡ body_span e ∷ drop (at.leaf + 1) (data_block_spans e)
data_block_next t e at h = rw h refl

pub data_block_end : (e : BlockEntry) (at : Position) → 0 < at.leaf → drop at.leaf (data_block_spans e) ≡ []
data_block_end e at h = drop_all at.leaf (data_block_spans e) (omega arith)

-- ---- what an identifier names, from its first block on

named_from : (t : Table) (named : Named) (n : ℕ) → named_left t named (record { child = 0; leaf = n }) ≡ drop n (named_spans t named)
unfolding xblock_left
named_from t Nothing n = sym (drop_all n [] (omega arith))
named_from t Missing n = sym (drop_all n [] (omega arith))
named_from t (Data e) n = refl
named_from t (Xblock e) n = refl
named_from t (Xxblock e) n = xxblock_from t e n

-- the first of what is left is the element with that number
pub get_of_drop : {X : Type 0} (xs : List X) (n : ℕ) → slice_get (drop n xs) 0 ≡ slice_get xs n
get_of_drop [] zero = refl
get_of_drop [] (suc n) = refl
get_of_drop (x ∷ xs) zero = refl
get_of_drop (x ∷ xs) (suc n) = get_of_drop xs n

first_left : (t : Table) (named : Named) (n : ℕ) → slice_get (named_left t named (record { child = 0; leaf = n })) 0 ≡ slice_get (named_spans t named) n
first_left t named n = ap (λ xs. slice_get xs 0) (named_from t named n) ∙ get_of_drop (named_spans t named) n

pub leaf_some : (t : Table) (named : Named) (n : ℕ) (s : Span) (rest : List Span) → named_left t named (record { child = 0; leaf = n }) ≡ s ∷ rest → slice_get (named_spans t named) n ≡ Some s
leaf_some t named n s rest h = sym (first_left t named n) ∙ ap (λ xs. slice_get xs 0) h

pub leaf_none : (t : Table) (named : Named) (n : ℕ) → named_left t named (record { child = 0; leaf = n }) ≡ [] → slice_get (named_spans t named) n ≡ None
leaf_none t named n h = sym (first_left t named n) ∙ ap (λ xs. slice_get xs 0) h

-- nothing is passed over
pub named_from_start : (t : Table) (named : Named) → named_left t named (record { child = 0; leaf = 0 }) ≡ named_spans t named
named_from_start t named = named_from t named 0
