-- Whole XBLOCKs are passed over by their totals.
use Rattle.std.proofs.Common.{◌≡◌, ℕ, ◌+◌, ◌-◌, ◌<◌, ◌≤◌, min, List, [], ◌∷◌, ◌++◌, length, drop, Some, refl, sym, ap, ◌∙◌, arith, inl, inr, length-append}
use Rattle.std.proofs.lemmas.Bool.{cases_lt}
use Rattle.pst_bytes.specs.declared.span.Span.{Span}
use Rattle.pst_page.specs.declared.entry.BlockEntry.{BlockEntry}
use Rattle.pst_block.specs.Table.{Table, body_of}
use Rattle.pst_datatree.specs.declared.position.Position.{Position}
use Rattle.pst_datatree.specs.List.{count_in}
use Rattle.pst_datatree.specs.Data.{size_of, xblock_spans, child_spans}
use Rattle.pst_datatree.specs.Cut.{cut, cut_span}
use Rattle.pst_datatree.specs.Spans.{nonempty}
use Rattle.pst_fault.specs.First.{join_from}
use Rattle.pst_datatree.specs.Position.{xxblock_left, Passes}
use Rattle.pst_datatree.proofs.CutLemmas.{size_of_cons, cut_cons, cut_with, cut_without, cut_nil}
use Rattle.pst_datatree.proofs.ValueLemmas.{with_bytes, without_bytes}
use Rattle.pst_datatree.proofs.PositionLemmas.{from_step, xxblock_pass}

-- spans of which no byte is wanted
cut_past_all : (from to : ℕ) (xs ys : List Span) → size_of xs ≤ from → from ≤ to → cut from to (xs ++ ys) ≡ cut (from - size_of xs) (to - size_of xs) ys
cut_past_all from to [] ys h order = let a : from ≡ from - size_of [] = omega arith in let b : to ≡ to - size_of [] = omega arith in ap (λ n. cut n to ys) a ∙ ap (λ n. cut (from - size_of []) n ys) b
cut_past_all from to (x ∷ xs) ys h order =
    let size = size_of_cons x xs in
    let a : from - x.len - size_of xs ≡ from - size_of (x ∷ xs) = omega (arith, size) in
    let b : to - x.len - size_of xs ≡ to - size_of (x ∷ xs) = omega (arith, size) in
    cut_without from to x (xs ++ ys) (omega (arith, size, h))
    ∙ cut_past_all (from - x.len) (to - x.len) xs ys (omega (arith, size, h)) (omega (arith, order))
    ∙ ap (λ n. cut n (to - x.len - size_of xs) ys) a
    ∙ ap (λ n. cut (from - size_of (x ∷ xs)) n ys) b

-- the data blocks of an XBLOCK are all behind the position
pub pass_used : (t : Table) (e x : BlockEntry) (at : Position) (skip : ℕ) → at.child < count_in (body_of t e) → child_spans t (body_of t e) at.child ≡ xblock_spans t x → length (xblock_spans t x) ≤ at.leaf → Passes (xxblock_left t e) at skip (Some (record { child = at.child + 1; leaf = at.leaf - length (xblock_spans t x) }, skip))
pass_used t e x at skip lt is past =
    let same = xxblock_pass t e x at lt is past in
    let len = ap (λ (xs : List Span). length xs) same in
    ((λ more. ap (cut skip (skip + more)) same), omega arith, omega (arith, len), omega arith)

-- its bytes are all passed over
pub pass_whole : (t : Table) (e x : BlockEntry) (at : Position) (skip : ℕ) → at.child < count_in (body_of t e) → child_spans t (body_of t e) at.child ≡ xblock_spans t x → at.leaf ≡ 0 → size_of (xblock_spans t x) ≤ skip → Passes (xxblock_left t e) at skip (Some (record { child = at.child + 1; leaf = 0 }, skip - size_of (xblock_spans t x)))
unfolding xxblock_left
pass_whole t e x at skip lt is z small =
    let part = child_spans t (body_of t e) in
    let n = count_in (body_of t e) in
    let rest = join_from part (at.child + 1) (n - (at.child + 1)) in
    let total = size_of (xblock_spans t x) in
    let split : join_from part at.child (n - at.child) ≡ xblock_spans t x ++ rest = from_step part at.child n lt ∙ ap (λ xs. xs ++ rest) is in
    let here : drop at.leaf (join_from part at.child (n - at.child)) ≡ xblock_spans t x ++ rest = ap (λ k. drop k (join_from part at.child (n - at.child))) z ∙ split in
    let len = ap (λ (xs : List Span). length xs) here in (
      (λ more.
          let more_too : skip + more - total ≡ skip - total + more = omega (arith, small) in
          ap (cut skip (skip + more)) here
          ∙ cut_past_all skip (skip + more) (xblock_spans t x) rest small (omega arith)
          ∙ ap (λ k. cut (skip - total) k rest) more_too),
      omega arith,
      omega (arith, len, length-append (xblock_spans t x) rest),
      omega arith,
    )

-- ---- the nonempty spans are a part of all spans

pub nonempty_is_cut : (to : ℕ) (xs : List Span) → size_of xs ≤ to → cut 0 to xs ≡ nonempty xs
nonempty_is_cut to [] h = cut_nil 0 to
nonempty_is_cut to (x ∷ rest) h =
    let size = size_of_cons x rest in
    elim (cases_lt 0 x.len) [
      | inl lt ↦
          let low : x.at + min 0 x.len ≡ x.at = omega arith in
          let high : min to x.len - min 0 x.len ≡ x.len = omega (arith, size, h) in
          let from : 0 - x.len ≡ 0 = omega arith in
          cut_with 0 to x rest (omega (arith, size, h, lt))
          ∙ ap (λ n. record { at = n; len = min to x.len - min 0 x.len } ∷ cut (0 - x.len) (to - x.len) rest) low
          ∙ ap (λ n. record { at = x.at; len = n } ∷ cut (0 - x.len) (to - x.len) rest) high
          ∙ ap (λ n. x ∷ cut n (to - x.len) rest) from
          ∙ ap (λ zs. x ∷ zs) (nonempty_is_cut (to - x.len) rest (omega (arith, size, h)))
          ∙ sym (with_bytes x rest lt)
      | inr le ↦
          let from : 0 - x.len ≡ 0 = omega arith in
          cut_without 0 to x rest (omega (arith, le))
          ∙ ap (λ n. cut n (to - x.len) rest) from
          ∙ nonempty_is_cut (to - x.len) rest (omega (arith, size, h))
          ∙ sym (without_bytes x rest le)
    ]

-- and of the nonempty spans each part is that of all spans
pub part_of_nonempty : (from to : ℕ) (xs : List Span) → cut from to (nonempty xs) ≡ cut from to xs
part_of_nonempty from to [] = refl
part_of_nonempty from to (x ∷ rest) =
    elim (cases_lt 0 x.len) [
      | inl lt ↦
          rw (with_bytes x rest lt)
          (cut_cons from to x (nonempty rest)
          ∙ ap (λ zs. cut_span from to x ++ zs) (part_of_nonempty (from - x.len) (to - x.len) rest)
          ∙ sym (cut_cons from to x rest))
      | inr le ↦
          let low : from - x.len ≡ from = omega arith in
          let high : to - x.len ≡ to = omega arith in
          rw (without_bytes x rest le)
          (part_of_nonempty from to rest
          ∙ sym (cut_without from to x rest (omega (arith, le)) ∙ ap (λ n. cut n (to - x.len) rest) low ∙ ap (λ n. cut from n rest) high))
    ]
