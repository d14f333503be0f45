-- Where the pieces of values lie.
use Rattle.std.proofs.Common.{◌≡◌, ℕ, ◌+◌, ◌<◌, ◌≤◌, List, [], ◌∷◌, ◌++◌, map, length, take, drop, Option, Some, None, refl, sym, ap, subst, ◌∙◌, arith, inl, inr, length-take, length-drop, Bor}
use Rattle.std.specs.Prelude.{IfSome, nat_lt, option_map, if◌then◌else◌, Result, Ok, Err, OnOk, ⊤}
use Rattle.std.proofs.lemmas.Bool.{cases_lt}
use Rattle.std.proofs.lemmas.List.{take_min}
use Rattle.std.proofs.lemmas.Grind.{common_steps}
use Rattle.pst_bytes.specs.declared.Image.{Image}
use Rattle.pst_bytes.specs.declared.span.Span.{Span}
use Rattle.pst_bytes.specs.Image.{bytes_of, bytes_at, IsInside}
use Rattle.pst_datatree.specs.declared.pieces.Pieces.{Pieces as PiecesView}
use Rattle.pst_datatree.specs.declared.value_view.Value.{Value}
use Rattle.pst_datatree.specs.declared.value_view.Value.TheVariants.{Whole, Pieces}
use Rattle.pst_datatree.specs.Left.{spans_left, file_of}
use Rattle.pst_datatree.specs.Shown.{ShowsSpans, KeepsBytes}
use Rattle.pst_datatree.specs.Spans.{nonempty, joined_bytes, first_span, AreInside}
use Rattle.pst_datatree.proofs.ValueLemmas.{with_bytes, without_bytes, length_bytes}
use Rattle.pst_pc.specs.Values.{spans_in}
use Rattle.pst_tc.specs.Values.{tc_cell}
use Rattle.pst_value.specs.View.{IsValueOf}
use Rattle.pst_value_json.specs.Laws.{AreBytesAt, PropPlacesLaw, CellPlacesLaw}
use Rattle.pst_value_json.specs.Places.{in_file, places_of, places_in, joined_content, content_in}

-- ---- spans without bytes

one_more : (s : Span) (xs ys : List Span) → nonempty xs ≡ nonempty ys → nonempty (s ∷ xs) ≡ nonempty (s ∷ ys)
one_more s xs ys same = ap (λ l. if nat_lt 0 s.len then s ∷ l else l) same

pub nonempty_twice : (spans : List Span) → nonempty (nonempty spans) ≡ nonempty spans
nonempty_twice [] = refl
nonempty_twice (s ∷ rest) =
    elim (cases_lt 0 s.len) [
      | inl lt ↦ rw (with_bytes s rest lt) (with_bytes s (nonempty rest) lt ∙ ap (λ l. s ∷ l) (nonempty_twice rest))
      | inr le ↦ rw (without_bytes s rest le) (nonempty_twice rest)
    ]

none_in_file : (I : List ℕ) (s : Span) → s.len ≤ 0 → length (bytes_at I s) ≤ 0
none_in_file I s le = grind (arith, common_steps)

pub places_of_nonempty : (I : List ℕ) (spans : List Span) → places_of I (nonempty spans) ≡ places_of I spans
places_of_nonempty I [] = refl
places_of_nonempty I (s ∷ rest) =
    elim (cases_lt 0 s.len) [
      | inl lt ↦ rw (with_bytes s rest lt) (one_more (in_file I s) (map (in_file I) (nonempty rest)) (map (in_file I) rest) (places_of_nonempty I rest))
      | inr le ↦ rw (without_bytes s rest le) (places_of_nonempty I rest ∙ sym (without_bytes (in_file I s) (map (in_file I) rest) (none_in_file I s le)))
    ]

-- ---- the places of a value that is one slice, or pieces, once those without bytes are left out

pub places_of_slice : (value kept : Value) (at : ℕ) (slice : Bor (List ℕ)) → KeepsBytes value kept → kept ≡ Whole at slice
    → places_in value ≡ nonempty (record { at = at; len = length slice.now } ∷ [])
places_of_slice (Whole a s) kept at slice keeps is = ap places_in (sym keeps ∙ is)
places_of_slice (Pieces p) kept at slice keeps is = absurd (rw is at keeps)

kept_places : (I J : List ℕ) (spans kept : List Span) → kept ≡ nonempty spans → J ≡ I → map (in_file J) kept ≡ kept → places_of I spans ≡ kept
kept_places I J spans kept is file inside =
    let all : map (in_file I) kept ≡ kept = rw file at inside in
    sym (places_of_nonempty I spans) ∙ ap (places_of I) (sym is) ∙ ap nonempty all ∙ ap nonempty is ∙ nonempty_twice spans ∙ sym is

pub places_of_pieces : (value kept : Value) (q : PiecesView) → KeepsBytes value kept → kept ≡ Pieces q
    → map (in_file (bytes_of (file_of q))) (spans_left q) ≡ spans_left q → places_in value ≡ spans_left q
places_of_pieces (Whole a s) kept q keeps is inside = absurd (cc)
places_of_pieces (Pieces p) kept q keeps is inside =
    let same : KeepsBytes (Pieces p) (Pieces q) = rw is at keeps in
    kept_places (bytes_of (file_of p)) (bytes_of (file_of q)) (spans_left p) (spans_left q) same.0 (ap bytes_of same.1) inside

-- what is so of its pieces is so of the value's
pub pieces_shown : {E : Type 0} (result : Result ⊤ E) (X : List Span → Type 0) (value kept : Value) (q : PiecesView) → KeepsBytes value kept → kept ≡ Pieces q
    → OnOk result (X (spans_left q)) → OnOk result (map (in_file (bytes_of (file_of q))) (spans_left q) ≡ spans_left q) → OnOk result (X (places_in value))
pieces_shown (Ok u) X value kept q keeps is shown inside = subst X (sym (places_of_pieces value kept q keeps is inside)) shown
pieces_shown (Err e) X value kept q keeps is shown inside = tt

pub slice_shown : {E : Type 0} (result : Result ⊤ E) (X : List Span → Type 0) (value kept : Value) (at : ℕ) (slice : Bor (List ℕ)) → KeepsBytes value kept → kept ≡ Whole at slice
    → OnOk result (X (nonempty (record { at = at; len = length slice.now } ∷ []))) → OnOk result (X (places_in value))
slice_shown (Ok u) X value kept at slice keeps is shown = subst X (sym (places_of_slice value kept at slice keeps is)) shown
slice_shown (Err e) X value kept at slice keeps is shown = tt

-- a slice without bytes has no piece, and any other is one
pub no_slice : (at len : ℕ) → len ≡ 0 → nonempty (record { at = at; len = len } ∷ []) ≡ []
no_slice at len is = without_bytes (record { at = at; len = len }) [] (omega (arith, is))

pub one_slice : (at len : ℕ) → 0 < len → nonempty (record { at = at; len = len } ∷ []) ≡ record { at = at; len = len } ∷ []
one_slice at len some = with_bytes (record { at = at; len = len }) [] some

-- ---- a span that lies in the file is all there

pub all_in_file : (I : List ℕ) (s : Span) → IsInside I s → in_file I s ≡ s
all_in_file I s inside = rw (length_bytes I s inside) refl

-- and so are all, where those behind it are
pub inside_more : (I J : List ℕ) (s : Span) (old new : List Span) → old ≡ s ∷ new → I ≡ J → IsInside J s → map (in_file I) new ≡ new → map (in_file I) old ≡ old
inside_more I J s old new steps file inside rest =
    ap (map (in_file I)) steps ∙ ap (λ x. x ∷ map (in_file I) new) (all_in_file I s (subst (λ K. IsInside K s) (sym file) inside)) ∙ ap (λ l. s ∷ l) rest ∙ sym steps

-- ---- what a value shows

first_place : (I : List ℕ) (spans : List Span) → length spans ≤ 1
    → nonempty (record { at = (first_span spans).at; len = length (bytes_at I (first_span spans)) } ∷ []) ≡ nonempty (map (in_file I) spans)
first_place I [] h = refl
first_place I (s ∷ []) h = refl
first_place I (s ∷ r ∷ rest) h = absurd (omega arith)

pub value_places : (file : Image) (spans : List Span) (v : Value) → ShowsSpans file spans v → places_in v ≡ places_of (bytes_of file) spans
value_places file spans (Whole at slice) is = rw (is.1, is.2) (first_place (bytes_of file) (nonempty spans) is.0 ∙ places_of_nonempty (bytes_of file) spans)
value_places file spans (Pieces p) is = rw (is.1, is.2) refl

pub value_content : (file : Image) (spans : Option (List Span)) (value : Option Value) → IsValueOf file spans value
    → option_map content_in value ≡ option_map (joined_content (bytes_of file)) spans
value_content file None None is = refl
value_content file None (Some v) is = absurd is
value_content file (Some spans) None is = absurd is
value_content file (Some spans) (Some v) is = rw (is.1, value_places file spans v is.0) refl

-- ---- the bytes at the places are the value's

bytes_in_file : (I : List ℕ) (s : Span) → bytes_at I (in_file I s) ≡ bytes_at I s
bytes_in_file I s = ap (λ n. take n (drop s.at I)) (length-take s.len (drop s.at I)) ∙ take_min s.len (drop s.at I)

no_bytes : (I : List ℕ) (s : Span) → length (bytes_at I s) ≤ 0 → bytes_at I s ≡ []
no_bytes I s le = grind (arith, common_steps)

same_bytes : (I : List ℕ) (spans : List Span) → joined_bytes I (places_of I spans) ≡ joined_bytes I spans
same_bytes I [] = refl
same_bytes I (s ∷ rest) =
    elim (cases_lt 0 (length (bytes_at I s))) [
      | inl lt ↦ rw (with_bytes (in_file I s) (map (in_file I) rest) lt, bytes_in_file I s) (ap (λ bs. bytes_at I s ++ bs) (same_bytes I rest))
      | inr le ↦ rw (without_bytes (in_file I s) (map (in_file I) rest) le, no_bytes I s le) (same_bytes I rest)
    ]

lies_inside : (I : List ℕ) (s : Span) → 0 < length (bytes_at I s) → s.at + length (bytes_at I s) ≤ length I
lies_inside I s lt = omega (arith, length-take s.len (drop s.at I), length-drop s.at I, lt)

all_inside : (I : List ℕ) (spans : List Span) → AreInside I (places_of I spans)
all_inside I [] = tt
all_inside I (s ∷ rest) =
    elim (cases_lt 0 (length (bytes_at I s))) [
      | inl lt ↦ rw (with_bytes (in_file I s) (map (in_file I) rest) lt) (lies_inside I s lt, all_inside I rest)
      | inr le ↦ rw (without_bytes (in_file I s) (map (in_file I) rest) le) (all_inside I rest)
    ]

places_hold : (I : List ℕ) (spans : List Span) → AreBytesAt I (places_of I spans) (joined_bytes I spans)
places_hold I spans = (same_bytes I spans, all_inside I spans, nonempty_twice (map (in_file I) spans))

pub prop_places : PropPlacesLaw
prop_places t r x = places_hold t.image (spans_in t r x)

cell_hold : (I : List ℕ) (spans : Option (List Span)) → IfSome (option_map (joined_content I) spans) (λ c. AreBytesAt I c.places c.bytes)
cell_hold I None = tt
cell_hold I (Some spans) = places_hold I spans

pub cell_places : CellPlacesLaw
cell_places t r row tag = cell_hold t.image (tc_cell t r row tag)
