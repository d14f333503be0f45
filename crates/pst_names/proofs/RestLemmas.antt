-- What is left of a stream, step by step.
use Rattle.std.proofs.Common.{◌≡◌, ℕ, ◌+◌, ◌-◌, ◌<◌, ◌≤◌, true, false, List, [], ◌∷◌, ◌++◌, length, length-drop, length-append, take, drop, drop-drop, take-take, set, take-append-drop, zero-add, refl, sym, ap, ◌∙◌, arith, ◌⊎◌, inl, inr}
use Rattle.std.specs.Prelude.{nat_lt, slice_range, slice_index_or}
use Rattle.std.proofs.lemmas.Bool.{cases_lt, cases_eq}
use Rattle.std.proofs.lemmas.Bool.Decides.{nat_tests}
use Rattle.std.proofs.lemmas.List.{drop-take, drop-append-le, length-take-le, take_more_set}
use Rattle.std.proofs.Math.Seq.{take-append-add}
use Rattle.pst_bytes.specs.declared.span.Span.{Span}
use Rattle.pst_bytes.specs.Image.{bytes_at, IsInside}
use Rattle.pst_datatree.specs.Spans.{joined_bytes}
use Rattle.pst_names.specs.Streams.{byte_place}
use Rattle.pst_names.specs.Behind.{IsBehind}

-- ---- places

pub place_front : (s : Span) (rest : List Span) (k : ℕ) → k < s.len → byte_place (s ∷ rest) k ≡ s.at + k
unfolding byte_place
place_front s rest k lt = let yes : nat_lt k s.len ≡ true = grind (arith, nat_tests) in rw yes refl

pub place_behind : (s : Span) (rest : List Span) (k : ℕ) → s.len ≤ k → byte_place (s ∷ rest) k ≡ byte_place rest (k - s.len)
unfolding byte_place
place_behind s rest k le = let no : nat_lt k s.len ≡ false = grind (arith, nat_tests) in rw no refl

-- ---- steps

-- behind no byte all is left
pub starts : (I : List ℕ) (all : List Span) → IsBehind I all 0 all
starts I all = record { bytes = refl; place = λ k lt. ap (byte_place all) (sym (zero-add k)) }

-- one step after another
pub joins : (I : List ℕ) (all mid rest : List Span) (n m : ℕ) → IsBehind I all n mid → IsBehind I mid m rest → IsBehind I all (n + m) rest
joins I all mid rest n m a b =
    let len : length (joined_bytes I mid) ≡ length (joined_bytes I all) - n = ap (λ (bs : List ℕ). length bs) a.bytes ∙ length-drop n (joined_bytes I all) in
    record {
      bytes = b.bytes ∙ ap (drop m) a.bytes ∙ drop-drop m n (joined_bytes I all);
      place = λ k lt.
          let one : m + k < length (joined_bytes I mid) = omega (arith, len, lt) in
          let two : n + (m + k) < length (joined_bytes I all) = omega (arith, lt) in
          let same : n + (m + k) ≡ n + m + k = omega arith in
          b.place k one ∙ a.place (m + k) two ∙ ap (byte_place all) same;
    }

-- no byte further on
pub same_place : (I : List ℕ) (all mid rest : List Span) (n : ℕ) → IsBehind I all n mid → IsBehind I mid 0 rest → IsBehind I all n rest
same_place I all mid rest n a b = let same : n + 0 ≡ n = omega arith in rw same at (joins I all mid rest n 0 a b)

-- how many bytes are left
pub left_length : (I : List ℕ) (all rest : List Span) (n : ℕ) → IsBehind I all n rest → length (joined_bytes I rest) ≡ length (joined_bytes I all) - n
left_length I all rest n b = ap (λ (bs : List ℕ). length bs) b.bytes ∙ length-drop n (joined_bytes I all)

-- where a byte is left, the front has one, which is not empty before the last one
pub front_some : (I : List ℕ) (all rest : List Span) (n len : ℕ) → IsBehind I all n rest → (len ≡ 0 → joined_bytes I rest ≡ []) → n < length (joined_bytes I all) → 0 < len
front_some I all rest n len b none lt =
    let total = left_length I all rest n b in
    elim (cases_eq len 0) [
      | inl z ↦ absurd (let empty : length (joined_bytes I rest) ≡ 0 = ap (λ (bs : List ℕ). length bs) (none z) in omega (arith, total, empty, lt))
      | inr more ↦ omega (arith, more)
    ]

pub no_bytes : (I : List ℕ) (s : Span) → s.len ≡ 0 → bytes_at I s ≡ []
no_bytes I s z = rw z refl

-- an empty span goes by
pub empty_front : (I : List ℕ) (s : Span) (rest : List Span) → s.len ≡ 0 → IsBehind I (s ∷ rest) 0 rest
empty_front I s rest z = record {
  bytes = ap (λ bs. bs ++ joined_bytes I rest) (sym (no_bytes I s z));
  place = λ k lt.
      let same : 0 + k - s.len ≡ k = omega (arith, z) in
      sym (place_behind s rest (0 + k) (omega (arith, z)) ∙ ap (byte_place rest) same);
}

-- so many bytes of the first span go by
pub skipped : (I : List ℕ) (s : Span) (rest : List Span) (m : ℕ) → m ≤ s.len → length (bytes_at I s) ≡ s.len → IsBehind I (s ∷ rest) m (record { at = s.at + m; len = s.len - m } ∷ rest)
skipped I s rest m le inside =
    let few : Span = record { at = s.at + m; len = s.len - m } in
    let total : m + (s.len - m) ≡ s.len = omega arith in
    let front : bytes_at I few ≡ drop m (bytes_at I s) =
    ap (take (s.len - m)) (sym (drop-drop m s.at I)) ∙ sym (drop-take m (s.len - m) (drop s.at I)) ∙ ap (λ n. drop m (take n (drop s.at I))) total in
    record {
      bytes = ap (λ bs. bs ++ joined_bytes I rest) front ∙ sym (drop-append-le m (bytes_at I s) (joined_bytes I rest) (omega (arith, inside)));
      place = λ k lt. by_place k (cases_lt k (s.len - m));
    }
  where
    by_place : (k : ℕ) → (k < s.len - m) ⊎ (s.len - m ≤ k) → byte_place (record { at = s.at + m; len = s.len - m } ∷ rest) k ≡ byte_place (s ∷ rest) (m + k)
    by_place k (inl lt) =
        let same : s.at + m + k ≡ s.at + (m + k) = omega arith in
        place_front (record { at = s.at + m; len = s.len - m }) rest k lt ∙ same ∙ sym (place_front s rest (m + k) (omega (arith, lt)))
    by_place k (inr past) =
        let same : k - (s.len - m) ≡ m + k - s.len = omega (arith, le) in
        place_behind (record { at = s.at + m; len = s.len - m }) rest k past ∙ ap (byte_place rest) same ∙ sym (place_behind s rest (m + k) (omega (arith, past, le)))

-- ---- the front, which is a span of the file

abbrev pub front_at : ℕ → List ℕ → Span
front_at at front = record { at = at; len = length front }

own_length : (I front : List ℕ) (at : ℕ) → front ≡ bytes_at I (front_at at front) → length (bytes_at I (front_at at front)) ≡ (front_at at front).len
own_length I front at own = ap (λ (bs : List ℕ). length bs) (sym own)

-- its bytes are among those that are left
pub front_fits : (I front : List ℕ) (all rest : List Span) (n at : ℕ) → IsBehind I all n (front_at at front ∷ rest) → front ≡ bytes_at I (front_at at front) → n ≤ length (joined_bytes I all) → n + length front ≤ length (joined_bytes I all)
front_fits I front all rest n at b own le =
    omega (arith, le, left_length I all (front_at at front ∷ rest) n b, length-append (bytes_at I (front_at at front)) (joined_bytes I rest), own_length I front at own)

-- behind so many of its bytes
pub skip_length : (front : List ℕ) (m : ℕ) → m ≤ length front → length (slice_range front m (length front)) ≡ length front - m
skip_length front m le = length-take-le (length front - m) (drop m front) (omega (arith, length-drop m front))

pub skip_own : (I front : List ℕ) (at m : ℕ) → front ≡ bytes_at I (front_at at front) → m ≤ length front → slice_range front m (length front) ≡ bytes_at I (front_at (at + m) (slice_range front m (length front)))
skip_own I front at m own le =
    let total : length front ≡ m + (length front - m) = omega (arith, le) in
    let whole : front ≡ take (m + (length front - m)) (drop at I) = own ∙ ap (λ n. take n (drop at I)) total in
    ap (λ bs. take (length front - m) (drop m bs)) whole
    ∙ ap (take (length front - m)) (drop-take m (length front - m) (drop at I))
    ∙ take-take (length front - m) (length front - m) (drop m (drop at I)) (omega arith)
    ∙ ap (take (length front - m)) (drop-drop m at I)
    ∙ ap (λ n. take n (drop (at + m) I)) (sym (skip_length front m le))

pub skip_behind : (I front : List ℕ) (at m : ℕ) (rest : List Span) → front ≡ bytes_at I (front_at at front) → m ≤ length front → IsBehind I (front_at at front ∷ rest) m (front_at (at + m) (slice_range front m (length front)) ∷ rest)
skip_behind I front at m rest own le = rw (skip_length front m le) (skipped I (front_at at front) rest m le (own_length I front at own))

-- the next piece, behind an empty front
pub next_length : (I front : List ℕ) (s : Span) → front ≡ bytes_at I s → IsInside I s → length front ≡ s.len
next_length I front s is inside = ap (λ (bs : List ℕ). length bs) is ∙ length-take-le s.len (drop s.at I) (omega (arith, inside, length-drop s.at I))

pub next_own : (I front : List ℕ) (s : Span) → front ≡ bytes_at I s → IsInside I s → front ≡ bytes_at I (front_at s.at front)
next_own I front s is inside = rw (next_length I front s is inside) is

pub next_behind : (I : List ℕ) (all : List Span) (n at : ℕ) (front next : List ℕ) (s : Span) (left rest : List Span) → IsBehind I all n (front_at at front ∷ left) → length front ≡ 0 → left ≡ s ∷ rest → next ≡ bytes_at I s → IsInside I s → IsBehind I all n (front_at s.at next ∷ rest)
next_behind I all n at front next s left rest b empty is bytes inside =
    let same : n + 0 ≡ n = omega arith in
    let here : IsBehind I all n left = rw same at (joins I all (front_at at front ∷ left) left n 0 b (empty_front I (front_at at front) left empty)) in
    rw (next_length I next s bytes inside, ← is) here

-- no byte is left
pub none_behind : (I : List ℕ) (all : List Span) (at : ℕ) (front : List ℕ) (left : List Span) → IsBehind I all 0 (front_at at front ∷ left) → length front ≡ 0 → left ≡ [] → joined_bytes I all ≡ []
none_behind I all at front left b empty none =
    let none_here : joined_bytes I (front_at at front ∷ left) ≡ [] = rw (none, no_bytes I (front_at at front) empty) refl in
    sym b.bytes ∙ none_here

-- ---- bytes, one by one

-- one more byte is read
pub one_more : (xs more all : List ℕ) (i b : ℕ) → take i xs ≡ take i all → drop i all ≡ b ∷ more → i < length xs → take (i + 1) (set xs i b) ≡ take (i + 1) all
one_more xs more all i b same next lt =
    let some : 0 < length (drop i all) = rw next (omega arith) in
    let front : length (take i all) ≡ i = length-take-le i all (omega (arith, some, length-drop i all)) in
    let split : all ≡ take i all ++ b ∷ more = sym (take-append-drop i all) ∙ ap (λ bs. take i all ++ bs) next in
    let read : take (length (take i all) + 1) (take i all ++ b ∷ more) ≡ take i all ++ b ∷ [] = take-append-add (take i all) (b ∷ more) 1 in
    take_more_set xs i b lt ∙ ap (λ bs. bs ++ b ∷ []) same ∙ sym read ∙ ap (λ n. take (n + 1) (take i all ++ b ∷ more)) front ∙ ap (take (i + 1)) (sym split)

pub first_byte : (xs : List ℕ) (d : ℕ) → 0 < length xs → xs ≡ slice_index_or xs 0 d ∷ drop 1 xs
first_byte [] d some = absurd (omega (arith, some))
first_byte (x ∷ xs) d some = refl

-- the next byte, in front of what is left
pub next_byte : (I : List ℕ) (all : List Span) (i at d : ℕ) (xs front : List ℕ) (rest : List Span) → IsBehind I all i (front_at at front ∷ rest) → front ≡ bytes_at I (front_at at front) → 0 < length front → i < length xs
    → take i xs ≡ take i (joined_bytes I all) → take (i + 1) (set xs i (slice_index_or front 0 d)) ≡ take (i + 1) (joined_bytes I all)
next_byte I all i at d xs front rest b own some lt same =
    let next : drop i (joined_bytes I all) ≡ slice_index_or front 0 d ∷ (drop 1 front ++ joined_bytes I rest) =
    sym b.bytes ∙ ap (λ bs. bs ++ joined_bytes I rest) (sym own) ∙ ap (λ bs. bs ++ joined_bytes I rest) (first_byte front d some) in
    one_more xs (drop 1 front ++ joined_bytes I rest) (joined_bytes I all) i (slice_index_or front 0 d) same next lt
