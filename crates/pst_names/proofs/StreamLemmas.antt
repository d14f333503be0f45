-- The spans of a stream.
use Rattle.std.proofs.Common.{◌≡◌, ℕ, zero, suc, ◌+◌, ◌-◌, ◌/◌, ◌<◌, ◌≤◌, List, [], ◌∷◌, ◌++◌, length, length-take, take, drop, Option, Some, None, refl, sym, ap, ◌∙◌, arith, inl, inr}
use Rattle.std.specs.Prelude.{option_map}
use Rattle.std.specs.Borrow.{Bor}
use Rattle.std.proofs.lemmas.Bool.{cases_lt}
use Rattle.std.proofs.lemmas.List.{append-nil}
use Rattle.pst_bytes.specs.declared.span.Span.{Span}
use Rattle.pst_bytes.specs.declared.Image.{Image}
use Rattle.pst_bytes.specs.Image.{bytes_of, bytes_at}
use Rattle.pst_block.specs.Table.{Table}
use Rattle.pst_btree.specs.Entries.{first_with}
use Rattle.pst_ndb.specs.Roots.{Roots}
use Rattle.pst_bth.specs.Values.{record_key}
use Rattle.pst_bth.proofs.RecordLemmas.{found_made}
use Rattle.pst_pc.specs.Values.{id_of, pc_records, property_at, props_of, spans_in}
use Rattle.pst_datatree.specs.declared.value_view.Value.{Value}
use Rattle.pst_datatree.specs.declared.value_view.Value.TheVariants.{Whole, Pieces as InPieces}
use Rattle.pst_datatree.specs.Shown.{ShowsSpans, bytes_in}
use Rattle.pst_datatree.specs.Spans.{nonempty, first_span, joined_bytes}
use Rattle.pst_datatree.proofs.ValueLemmas.{bytes_of_pieces, bytes_of_only, with_bytes, without_bytes}
use Rattle.pst_names.specs.declared.streams.TheConstants.{ENTRIES}
use Rattle.pst_names.specs.Streams.{stream_of, stream_bytes, record_spans, stream_spans, byte_place}
use Rattle.pst_names.specs.Entry.{entry_with}
use Rattle.pst_names.specs.Fault.{name_entry_fault, guids_count, strings_of, entries_fault}
use Rattle.pst_names.specs.Behind.{IsBehind}
use Rattle.pst_names.proofs.RestLemmas.{front_at, place_front, place_behind, no_bytes}
use Rattle.pst_names.proofs.WalkLemmas.{left_from}

pub found_spans : (t : Table) (r : Roots) (id : ℕ) (x : ℕ × Span) → first_with record_key id (pc_records t r) ≡ Some x → stream_spans t r id ≡ spans_in t r x
unfolding stream_spans
found_spans t r id x found = rw found refl

pub no_spans : (t : Table) (r : Roots) (id : ℕ) → first_with id_of id (props_of t r) ≡ None → stream_spans t r id ≡ []
unfolding stream_spans props_of
no_spans t r id none = by_record (first_with record_key id (pc_records t r)) (sym (found_made id_of (property_at t r) id (pc_records t r) (λ x. refl)) ∙ none)
  where
    by_record : (o : Option (ℕ × Span)) → option_map (property_at t r) o ≡ None → record_spans t r o ≡ []
    by_record None e = refl
    by_record (Some x) e = absurd cc

-- ---- what a stream shows

take_own : (n : ℕ) (xs : List ℕ) → take n xs ≡ take (length (take n xs)) xs
take_own zero xs = refl
take_own (suc n) [] = refl
take_own (suc n) (x ∷ xs) = ap (λ bs. x ∷ bs) (take_own n xs)

-- the one slice is the front
pub whole_own : (file : Image) (spans : List Span) (at : ℕ) (slice : Bor (List ℕ)) → ShowsSpans file spans (Whole at slice) → slice.now ≡ bytes_at (bytes_of file) (front_at at slice.now)
whole_own file spans at slice shows =
    let s = first_span (nonempty spans) in
    let own : slice.now ≡ take (length slice.now) (drop s.at (bytes_of file)) = shows.2 ∙ take_own s.len (drop s.at (bytes_of file)) ∙ ap (λ (bs : List ℕ). take (length bs) (drop s.at (bytes_of file))) (sym shows.2) in
    rw shows.1 own

one_place : (spans : List Span) (k : ℕ) → k < (first_span (nonempty spans)).len → byte_place spans k ≡ (first_span (nonempty spans)).at + k
one_place [] k lt = absurd (omega (arith, lt))
one_place (s ∷ rest) k lt =
    elim (cases_lt 0 s.len) [
      | inl some ↦ rw (with_bytes s rest some) (place_front s rest k (rw (with_bytes s rest some) at lt))
      | inr none ↦
          let same : k - s.len ≡ k = omega (arith, none) in
          rw (without_bytes s rest none) (place_behind s rest k (omega (arith, none)) ∙ ap (byte_place rest) same ∙ one_place rest k (rw (without_bytes s rest none) at lt))
    ]

whole_bytes : (file : Image) (spans : List Span) (at : ℕ) (slice : Bor (List ℕ)) → ShowsSpans file spans (Whole at slice) → slice.now ≡ joined_bytes (bytes_of file) spans
whole_bytes file spans at slice shows = shows.2 ∙ bytes_of_only (bytes_of file) spans shows.0

pub whole_behind : (file : Image) (spans : List Span) (at : ℕ) (slice : Bor (List ℕ)) → ShowsSpans file spans (Whole at slice) → IsBehind (bytes_of file) spans 0 (front_at at slice.now ∷ [])
whole_behind file spans at slice shows =
    let I = bytes_of file in
    let s = first_span (nonempty spans) in
    let own = whole_own file spans at slice shows in
    let all = whole_bytes file spans at slice shows in
    let short : length slice.now ≤ s.len = rw shows.2 (omega (arith, length-take s.len (drop s.at I))) in
    record {
      bytes = append-nil (bytes_at I (front_at at slice.now)) ∙ sym own ∙ all;
      place = λ k lt.
          let here : k < length slice.now = rw all (omega (arith, lt)) in
          let none : 0 + k ≡ k = omega arith in
          place_front (front_at at slice.now) [] k here ∙ ap (λ n. n + k) shows.1 ∙ sym (one_place spans k (omega (arith, here, short))) ∙ ap (byte_place spans) (sym none);
    }

-- all pieces are behind an empty front
pub pieces_behind : (I : List ℕ) (all left : List Span) (front : List ℕ) → left ≡ all → length front ≡ 0 → IsBehind I all 0 (front_at 0 front ∷ left)
pieces_behind I all left front is empty =
    let e = front_at 0 front in
    record {
      bytes = ap (λ bs. bs ++ joined_bytes I left) (no_bytes I e empty) ∙ ap (joined_bytes I) is;
      place = λ k lt.
          let same : k - e.len ≡ k = omega (arith, empty) in
          let none : k ≡ 0 + k = omega arith in
          place_behind e left k (omega (arith, empty)) ∙ ap (byte_place left) same ∙ ap (λ ys. byte_place ys k) is ∙ ap (byte_place all) none;
    }

pub shown_bytes : (file : Image) (spans : List Span) (v : Value) → ShowsSpans file spans v → bytes_in v ≡ joined_bytes (bytes_of file) spans
shown_bytes file spans (Whole at slice) shows = whole_bytes file spans at slice shows
shown_bytes file spans (InPieces p) shows = rw (shows.1, shows.2) (bytes_of_pieces (bytes_of file) spans)

-- ---- all entries

pub all_left : (t : Table) (r : Roots) (I : List ℕ) (guids : ℕ) (strings : List ℕ) (count : ℕ) → guids ≡ guids_count t r → strings ≡ strings_of t r → joined_bytes I (stream_spans t r ENTRIES) ≡ stream_bytes (stream_of t r ENTRIES)
    → count ≡ length (stream_bytes (stream_of t r ENTRIES)) / 8
    → left_from (name_entry_fault guids strings) (entry_with (stream_spans t r ENTRIES) (joined_bytes I (stream_spans t r ENTRIES))) 0 count ≡ entries_fault t r
unfolding entries_fault
all_left t r I guids strings count g s bytes is = let whole : count - 0 ≡ count = omega arith in rw (whole, g, s, bytes, is) refl
