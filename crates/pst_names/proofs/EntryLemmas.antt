-- Entries, one after another, and where they lie.
use Rattle.std.proofs.Common.{◌≡◌, ℕ, zero, suc, ◌+◌, ◌-◌, ◌*◌, ◌<◌, ◌≤◌, List, ◌∷◌, ◌++◌, length, length-drop, length-append, take, drop, drop-drop, zero-add, Option, Some, None, refl, sym, ap, ◌∙◌, arith}
use Rattle.std.proofs.lemmas.List.{drop-append-le, take-append-le}
use Rattle.pst_bytes.specs.declared.span.Span.{Span}
use Rattle.pst_bytes.specs.Image.{bytes_at}
use Rattle.pst_fault.specs.declared.fault.Fault.{Fault}
use Rattle.pst_fault.specs.Each.{first_of}
use Rattle.pst_fault.proofs.FirstLemmas.{then_none, then_some}
use Rattle.pst_datatree.specs.Spans.{joined_bytes}
use Rattle.pst_names.specs.Streams.{byte_place}
use Rattle.pst_names.specs.Entry.{NameEntry, entry_in, name_entry_bytes, entry_with, name_entries}
use Rattle.pst_names.specs.Behind.{IsBehind}
use Rattle.pst_names.proofs.NumLemmas.{range_is}
use Rattle.pst_names.proofs.RestLemmas.{place_front, left_length}

-- ---- one entry

-- an entry whose bytes are the front of what is left behind those before it
placed : (I : List ℕ) (all : List Span) (i at : ℕ) (bytes : List ℕ) → byte_place all (8 * i) ≡ at → take 8 (drop (8 * i) (joined_bytes I all)) ≡ bytes → entry_with all (joined_bytes I all) i ≡ entry_in at bytes
unfolding entry_with
placed I all i at bytes place is = rw (place, range_is (joined_bytes I all) (8 * i) 8, is) refl

-- one that lies whole in the first span
pub entry_here : (I : List ℕ) (all : List Span) (i j : ℕ) (s : Span) (rest : List Span) (front : List ℕ) → IsBehind I all (8 * i) (s ∷ rest) → front ≡ bytes_at I s → length front ≡ s.len → 8 * j + 8 ≤ length front
    → entry_with all (joined_bytes I all) (i + j) ≡ entry_in (s.at + 8 * j) (name_entry_bytes front j)
entry_here I all i j s rest front b is len le =
    let total = left_length I all (s ∷ rest) (8 * i) b in
    let both = length-append (bytes_at I s) (joined_bytes I rest) in
    let own : length front ≡ length (bytes_at I s) = ap (λ (bs : List ℕ). length bs) is in
    let k : 8 * (i + j) ≡ 8 * i + 8 * j = omega arith in
    let in_all : 8 * i + 8 * j < length (joined_bytes I all) = omega (arith, total, both, own, le) in
    let place : byte_place all (8 * (i + j)) ≡ s.at + 8 * j =
    ap (byte_place all) k ∙ sym (b.place (8 * j) in_all) ∙ place_front s rest (8 * j) (omega (arith, len, le)) in
    let bytes : take 8 (drop (8 * (i + j)) (joined_bytes I all)) ≡ name_entry_bytes front j =
    ap (λ n. take 8 (drop n (joined_bytes I all))) k
    ∙ ap (take 8) (sym (drop-drop (8 * j) (8 * i) (joined_bytes I all)))
    ∙ ap (λ bs. take 8 (drop (8 * j) bs)) (sym b.bytes)
    ∙ ap (λ bs. take 8 (drop (8 * j) (bs ++ joined_bytes I rest))) (sym is)
    ∙ ap (take 8) (drop-append-le (8 * j) front (joined_bytes I rest) (omega (arith, le)))
    ∙ take-append-le 8 (drop (8 * j) front) (joined_bytes I rest) (omega (arith, length-drop (8 * j) front, le))
    ∙ sym (range_is front (8 * j) 8) in
    placed I all (i + j) (s.at + 8 * j) (name_entry_bytes front j) place bytes

-- one that begins in the first span
pub entry_across : (I : List ℕ) (all : List Span) (i : ℕ) (s : Span) (rest : List Span) → IsBehind I all (8 * i) (s ∷ rest) → 0 < s.len → 8 * i + 8 ≤ length (joined_bytes I all)
    → entry_with all (joined_bytes I all) i ≡ entry_in s.at (take 8 (joined_bytes I (s ∷ rest)))
entry_across I all i s rest b some le =
    let here : 8 * i ≡ 8 * i + 0 = omega arith in
    let at : s.at + 0 ≡ s.at = omega arith in
    placed I all i s.at (take 8 (joined_bytes I (s ∷ rest))) (ap (byte_place all) here ∙ sym (b.place 0 (omega (arith, le))) ∙ place_front s rest 0 some ∙ at) (ap (take 8) (sym b.bytes))

-- its bytes, wherever it lies
pub entry_left : (I : List ℕ) (all : List Span) (i : ℕ) (rest : List Span) → IsBehind I all (8 * i) rest → entry_with all (joined_bytes I all) i ≡ entry_in (byte_place all (8 * i)) (take 8 (joined_bytes I rest))
entry_left I all i rest b = placed I all i (byte_place all (8 * i)) (take 8 (joined_bytes I rest)) refl (ap (take 8) (sym b.bytes))

-- ---- the first fault of several

-- so many without a fault
pub passed_many : (f : NameEntry → Option Fault) (entry : ℕ → NameEntry) (i m n : ℕ) → ((j : ℕ) → j < m → f (entry (i + j)) ≡ None) → first_of f (name_entries entry i (m + n)) ≡ first_of f (name_entries entry (i + m) n)
unfolding first_of name_entries
passed_many f entry i zero n none = let here : i ≡ i + 0 = omega arith in rw (zero-add n) (ap (λ k. first_of f (name_entries entry k n)) here)
passed_many f entry i (suc m) n none =
    let first : f (entry i) ≡ None = let here : i + 0 ≡ i = omega arith in rw here at (none 0 (omega arith)) in
    let later : (j : ℕ) → j < m → f (entry (i + 1 + j)) ≡ None = λ j lt. let same : i + 1 + j ≡ i + suc j = omega arith in rw same (none (suc j) (omega (arith, lt))) in
    let same : i + 1 + m ≡ i + suc m = omega arith in
    let count : suc m + n ≡ suc (m + n) = omega arith in
    rw count (then_none (f (entry i)) (first_of f (name_entries entry (i + 1) (m + n))) first ∙ passed_many f entry (i + 1) m n later ∙ ap (λ k. first_of f (name_entries entry k n)) same)

-- one with a fault behind so many without
pub refused_at : (f : NameEntry → Option Fault) (entry : ℕ → NameEntry) (i j n : ℕ) (x : Fault) → ((k : ℕ) → k < j → f (entry (i + k)) ≡ None) → f (entry (i + j)) ≡ Some x → j < n → first_of f (name_entries entry i n) ≡ Some x
unfolding first_of name_entries
refused_at f entry i j n x none failed lt =
    let count : n ≡ j + suc (n - (j + 1)) = omega (arith, lt) in
    rw count (passed_many f entry i j (suc (n - (j + 1))) none ∙ then_some (f (entry (i + j))) (first_of f (name_entries entry (i + j + 1) (n - (j + 1)))) x failed)

-- none is left
pub passed_all : (f : NameEntry → Option Fault) (entry : ℕ → NameEntry) (i : ℕ) → first_of f (name_entries entry i 0) ≡ None
unfolding first_of name_entries
passed_all f entry i = refl
