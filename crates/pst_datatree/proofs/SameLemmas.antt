-- Values that have the same parts.
use Rattle.std.proofs.Common.{◌≡◌, ℕ, ◌+◌, ◌-◌, ◌≤◌, List, ◌∷◌, length, length-append, drop, refl, sym, ap, ◌∙◌, arith}
use Rattle.std.specs.List.{concat}
use Rattle.pst_bytes.specs.declared.Image.{Image}
use Rattle.pst_bytes.specs.declared.span.Span.{Span}
use Rattle.pst_bytes.specs.Image.{bytes_of, bytes_at, IsInside}
use Rattle.pst_datatree.specs.declared.value_view.Value.{Value}
use Rattle.pst_datatree.specs.declared.value_view.Value.TheVariants.{Whole, Pieces}
use Rattle.pst_datatree.specs.declared.pieces.Pieces.{Pieces as InPieces}
use Rattle.pst_datatree.specs.Cut.{cut}
use Rattle.pst_datatree.specs.Left.{spans_left, slices_left, file_of}
use Rattle.pst_datatree.specs.Same.{HaveSameParts}
use Rattle.pst_datatree.specs.Shown.{IsPart, KeepsBytes, ShowsSpans}
use Rattle.pst_datatree.specs.Spans.{slices_of}
use Rattle.pst_datatree.proofs.CutLemmas.{cut_past, part_of_part}
use Rattle.pst_datatree.proofs.PassLemmas.{part_of_nonempty}
use Rattle.pst_datatree.proofs.PositionLemmas.{drop_past}
use Rattle.pst_datatree.proofs.ValueLemmas.{length_bytes}

-- a value without its empty spans has the same parts
pub kept_parts : (v kept : Value) → KeepsBytes v kept → HaveSameParts v 0 kept 0
kept_parts (Whole at slice) kept is = rw is (refl, (refl, refl, refl), refl)
kept_parts (Pieces p) (Whole at slice) is = absurd is
kept_parts (Pieces p) (Pieces q) is = (is.1, λ more. rw is.0 (part_of_nonempty 0 (0 + more) (spans_left p)))

shows_as : (file other : Image) (spans others : List Span) (v : Value) → file ≡ other → spans ≡ others → ShowsSpans file spans v → ShowsSpans other others v
shows_as file other spans others v e d is = rw (e, d) at is

-- a part of the one is that part of the other
pub part_of_same : (v other part : Value) (from behind size : ℕ) → HaveSameParts v from other behind
    → IsPart behind (behind + size) other part → IsPart from (from + size) v part
part_of_same (Whole at slice) (Whole place other) (Whole here own) from behind size same is =
    (rw (same.0, same.2) at is.0, rw (same.1.0, same.2) at is.1, is.2 ∙ same.1.1, rw (same.1.2, same.2) at is.3)
part_of_same (Whole at slice) (Whole place other) (Pieces r) from behind size same is = absurd is
part_of_same (Whole at slice) (Pieces q) part from behind size same is = absurd same
part_of_same (Pieces p) (Whole at slice) part from behind size same is = absurd same
part_of_same (Pieces p) (Pieces q) part from behind size same is =
    shows_as (file_of q) (file_of p) (cut behind (behind + size) (spans_left q)) (cut from (from + size) (spans_left p)) part same.0 (same.1 size) is

-- the same parts are behind a part
pub parts_behind : (v other : Value) (from behind size : ℕ) → HaveSameParts v from other behind → HaveSameParts v (from + size) other (behind + size)
parts_behind (Whole at slice) (Whole place other) from behind size same = (same.0, same.1, ap (λ n. n + size) same.2)
parts_behind (Whole at slice) (Pieces q) from behind size same = absurd same
parts_behind (Pieces p) (Whole at slice) from behind size same = absurd same
parts_behind (Pieces p) (Pieces q) from behind size same = (
  same.0,
  λ more.
      let m : size + more - size ≡ more = omega arith in
      let here : (n : ℕ) (xs : List Span) → cut (n + size) (n + size + more) xs ≡ cut size (size + more) (cut n (n + (size + more)) xs) =
      λ n xs. rw m at (part_of_part n (size + more) size (size + more) xs (omega arith) (omega arith)) in
      here behind (spans_left q) ∙ ap (cut size (size + more)) (same.1 (size + more)) ∙ sym (here from (spans_left p)),
)

-- and the same parts as the other has a third has
pub same_parts_on : (v other third : Value) (from behind last : ℕ) → HaveSameParts v from other behind → HaveSameParts other behind third last → HaveSameParts v from third last
same_parts_on (Whole at slice) (Whole place same) (Whole here own) from behind last a c =
    (c.0 ∙ a.0, (c.1.0 ∙ a.1.0, c.1.1 ∙ a.1.1, c.1.2 ∙ a.1.2), c.2 ∙ a.2)
same_parts_on (Whole at slice) (Whole place same) (Pieces r) from behind last a c = absurd c
same_parts_on (Whole at slice) (Pieces q) third from behind last a c = absurd a
same_parts_on (Pieces p) (Whole at slice) third from behind last a c = absurd a
same_parts_on (Pieces p) (Pieces q) (Whole at slice) from behind last a c = absurd c
same_parts_on (Pieces p) (Pieces q) (Pieces r) from behind last a c = (c.0 ∙ a.0, λ more. c.1 more ∙ a.1 more)

-- ---- a first span that is passed over

pub parts_passed : (p here next : InPieces) (skip left : ℕ) (span : Span) → HaveSameParts (Pieces p) skip (Pieces here) left
    → spans_left here ≡ span ∷ spans_left next → file_of next ≡ file_of here → span.len ≤ left → HaveSameParts (Pieces p) skip (Pieces next) (left - span.len)
parts_passed p here next skip left span same split file le =
    (file ∙ same.0, λ more. sym (cut_past left more span (spans_left next) le) ∙ ap (cut left (left + more)) (sym split) ∙ same.1 more)

slices_split : (here next : InPieces) (span : Span) → spans_left here ≡ span ∷ spans_left next → file_of next ≡ file_of here
    → slices_left here ≡ bytes_at (bytes_of (file_of here)) span ∷ slices_left next
slices_split here next span split file =
    ap (slices_of (bytes_of (file_of here))) split
    ∙ ap (λ (f : Image). bytes_at (bytes_of (file_of here)) span ∷ slices_of (bytes_of f) (spans_left next)) (sym file)

pub bytes_passed : (here next : InPieces) (left : ℕ) (span : Span) → spans_left here ≡ span ∷ spans_left next → file_of next ≡ file_of here
    → IsInside (bytes_of (file_of here)) span → span.len ≤ left → drop (left - span.len) (concat (slices_left next)) ≡ drop left (concat (slices_left here))
bytes_passed here next left span split file inside le =
    let piece = bytes_at (bytes_of (file_of here)) span in
    let len : length piece ≡ span.len = length_bytes (bytes_of (file_of here)) span inside in
    ap (λ n. drop (left - n) (concat (slices_left next))) (sym len)
    ∙ sym (drop_past piece (concat (slices_left next)) left (rw len le))
    ∙ ap (λ ss. drop left (concat ss)) (sym (slices_split here next span split file))

pub still_inside : (here next : InPieces) (left : ℕ) (span : Span) → spans_left here ≡ span ∷ spans_left next → file_of next ≡ file_of here
    → IsInside (bytes_of (file_of here)) span → span.len ≤ left → left ≤ length (concat (slices_left here)) → left - span.len ≤ length (concat (slices_left next))
still_inside here next left span split file inside le within =
    let piece = bytes_at (bytes_of (file_of here)) span in
    let len : length piece ≡ span.len = length_bytes (bytes_of (file_of here)) span inside in
    let whole : length (concat (slices_left here)) ≡ length piece + length (concat (slices_left next)) =
    ap (λ ss. length (concat ss)) (slices_split here next span split file) ∙ length-append piece (concat (slices_left next)) in
    omega arith
