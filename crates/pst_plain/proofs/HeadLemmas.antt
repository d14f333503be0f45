-- A header that is given another bCryptMethod, and then its own again, is as it was.
use Rattle.std.proofs.Common.{◌≡◌, ℕ, zero, suc, ◌+◌, ◌/◌, ◌%◌, ◌^◌, ◌<◌, ◌≤◌, ◌⊎◌, inl, inr, List, [], ◌∷◌, ◌++◌, length, take, drop, get_or, refl, sym, ap, ◌∙◌, arith, append-nil}
use Rattle.std.specs.Prelude.{bit_xor, fold}
use Rattle.std.specs.List.{All}
use Rattle.std.specs.Int.{bytes_low_first, byte_at}
use Rattle.std.specs.Int.Bits.{xor_assoc, xor_self, xor_zero_r}
use Rattle.std.proofs.lemmas.Nat.{xor_comm, xor_lt, le_bytes_4, mod_below}
use Rattle.std.proofs.lemmas.List.{length-take-le, length-drop, take_more, get_or_past}
use Rattle.std.proofs.lemmas.Bool.{cases_lt}
use Rattle.std.proofs.lemmas.List.Elements.{All-head, All-tail, All-cons, All-nil, All-append, All-take, All-drop, All-get_or}
use Rattle.byteorder.specs.Endian.{little_bytes, little_number}
use Rattle.byteorder.specs.Numbers.{length-bytes_low_first, little_number-reads_back, little_from-lt}
use Rattle.pst_bytes.specs.Image.{num, bytes_at}
use Rattle.pst_bytes.specs.declared.span.Span.{Span}
use Rattle.pst_bytes.specs.Span.{IsApartFrom}
use Rattle.pst_crc.specs.Crc.{crc, shifted, shifted_by, after_byte}
use Rattle.pst_encoding.specs.Tables.{IsByte}
use Rattle.pst_plain.specs.Written.{written}
use Rattle.pst_plain.specs.Carried.{carried, with_carried}
use Rattle.pst_plain.specs.Twin.{with_method, full_span}
use Rattle.pst_plain.proofs.WriteLemmas.{length_written, bytes_here, bytes_elsewhere, written_again, written_same, written_apart}

-- ---- check values have 32 bits

parity : (n : ℕ) → (n % 2 ≡ 0) ⊎ (n % 2 ≡ 1)
parity n = grind arith

shifted_fits : (r : ℕ) → r < 2 ^ 32 → shifted r < 2 ^ 32
shifted_fits r fits =
    elim (parity r) [
      | inl even ↦ rw even (omega arith)
      | inr odd ↦ rw odd (xor_lt 32 (r / 2) 0xEDB88320 (omega arith) (omega arith))
    ]

shifted_by_fits : (n r : ℕ) → r < 2 ^ 32 → shifted_by n r < 2 ^ 32
unfolding shifted_by
shifted_by_fits zero r fits = fits
shifted_by_fits (suc n) r fits = shifted_by_fits n (shifted r) (shifted_fits r fits)

fold_fits : (bytes : List ℕ) (r : ℕ) → All IsByte bytes → r < 2 ^ 32 → fold after_byte r bytes < 2 ^ 32
unfolding after_byte
fold_fits [] r all fits = fits
fold_fits (b ∷ rest) r all fits =
    let byte : b < 256 = All-head IsByte b rest all in
    fold_fits rest (shifted_by 8 (bit_xor r b)) (All-tail IsByte b rest all) (shifted_by_fits 8 (bit_xor r b) (xor_lt 32 r b fits (omega arith)))

pub crc_fits : (bytes : List ℕ) → All IsByte bytes → crc bytes < 2 ^ 32
unfolding crc
crc_fits bytes all = fold_fits bytes 0 all (omega arith)

pub carried_fits : (check : ℕ) (old new : List ℕ) → check < 2 ^ 32 → All IsByte old → All IsByte new → carried check old new < 2 ^ 32
carried_fits check old new fits a b = xor_lt 32 check (bit_xor (crc old) (crc new)) fits (xor_lt 32 (crc old) (crc new) (crc_fits old a) (crc_fits new b))

-- carried over and back
pub carried_back : (check : ℕ) (old new : List ℕ) → carried (carried check old new) new old ≡ check
carried_back check old new =
    let a = crc old in
    let b = crc new in
    let turned : bit_xor (bit_xor a b) (bit_xor b a) ≡ 0 = ap (bit_xor (bit_xor a b)) (xor_comm b a) ∙ xor_self (bit_xor a b) in
    xor_assoc check (bit_xor a b) (bit_xor b a) ∙ ap (bit_xor check) turned ∙ xor_zero_r check

-- ---- numbers of four bytes

each_byte : (bytes : List ℕ) → All IsByte bytes → (k : ℕ) → get_or bytes k 0 < 256
each_byte bytes all k =
    elim (cases_lt k (length bytes)) [
      | inl below ↦ All-get_or IsByte bytes k 0 below all
      | inr past ↦ rw (get_or_past bytes k 0 past) (omega arith)
    ]

pub num_fits : (I : List ℕ) (at : ℕ) → All IsByte I → num I at 4 < 2 ^ 32
unfolding num
num_fits I at all =
    let bytes = take 4 (drop at I) in
    let some = All-take IsByte 4 (drop at I) (All-drop IsByte at I all) in
    little_from-lt 0 4 bytes (each_byte bytes some)

byte_fits : (i x : ℕ) → byte_at i x < 256
byte_fits zero x = mod_below x 256 (omega arith)
byte_fits (suc i) x = mod_below (x / 256 ^ suc i) 256 (omega arith)

low_bytes_fit : (i n x : ℕ) → All IsByte (bytes_low_first i n x)
low_bytes_fit i zero x = All-nil IsByte
low_bytes_fit i (suc n) x = All-cons IsByte (byte_at i x) (bytes_low_first (suc i) n x) (byte_fits i x) (low_bytes_fit (suc i) n x)

pub four_bytes : (bytes : List ℕ) → length bytes ≡ 4 → All IsByte bytes → little_bytes 4 (little_number 4 bytes) ≡ bytes
four_bytes bytes size all = le_bytes_4 bytes (little_number 4 bytes) size (each_byte bytes all) (omega arith)

pub four_bytes_fit : (x : ℕ) → All IsByte (little_bytes 4 x)
four_bytes_fit x = low_bytes_fit 0 4 x

pub num_written : (I : List ℕ) (at x : ℕ) → at + 4 ≤ length I → x < 2 ^ 32 → num (written I at (little_bytes 4 x)) at 4 ≡ x
unfolding num
num_written I at x inside fits =
    let bytes = little_bytes 4 x in
    let size : length bytes ≡ 4 = length-bytes_low_first 0 4 x in
    let first = bytes_here I at bytes (record { at = at; len = 4 }) refl (sym size) (rw size inside) in
    ap (little_number 4) (first ∙ sym (append-nil bytes)) ∙ little_number-reads_back 4 x [] (omega arith)

pub num_elsewhere : (I : List ℕ) (at : ℕ) (bytes : List ℕ) (place n : ℕ) → at + length bytes ≤ length I → IsApartFrom (record { at = place; len = n }) (record { at = at; len = length bytes })
    → num (written I at bytes) place n ≡ num I place n
unfolding num
num_elsewhere I at bytes place n inside apart = ap (little_number n) (bytes_elsewhere I at bytes (record { at = place; len = n }) inside apart)

-- the check value that stands there, written there
pub num_stands : (I : List ℕ) (at : ℕ) → at + 4 ≤ length I → All IsByte I → written I at (little_bytes 4 (num I at 4)) ≡ I
unfolding num
num_stands I at inside all =
    let bytes = take 4 (drop at I) in
    let size : length bytes ≡ 4 = let d = length-drop at I in length-take-le 4 (drop at I) (omega (arith, d, inside)) in
    let same = four_bytes bytes size (All-take IsByte 4 (drop at I) (All-drop IsByte at I all)) in
    rw same (written_same I at bytes (rw size inside) (rw size refl))

pub written_bytes : (I : List ℕ) (at : ℕ) (bytes : List ℕ) → All IsByte I → All IsByte bytes → All IsByte (written I at bytes)
unfolding written
written_bytes I at bytes all some =
    All-append IsByte (take at I) (bytes ++ drop (at + length bytes) I) (All-take IsByte at I all)
    (All-append IsByte bytes (drop (at + length bytes) I) some (All-drop IsByte (at + length bytes) I all))

pub span_bytes : (I : List ℕ) (s : Span) → All IsByte I → All IsByte (bytes_at I s)
span_bytes I s all = All-take IsByte s.len (drop s.at I) (All-drop IsByte s.at I all)

pub one_byte : (b : ℕ) → b < 256 → All IsByte (b ∷ [])
one_byte b fits = All-cons IsByte b [] fits (All-nil IsByte)

-- a byte that stands there, written there
byte_stands : (I : List ℕ) (at b : ℕ) → at < length I → num I at 1 ≡ b → written I at (b ∷ []) ≡ I
unfolding num
byte_stands I at b inside is =
    let long : 0 < length (drop at I) = let d = length-drop at I in omega (arith, d, inside) in
    let first : take 1 (drop at I) ≡ get_or (drop at I) 0 0 ∷ [] = take_more (drop at I) 0 0 long in
    let value : get_or (drop at I) 0 0 ≡ b = let w = ap (λ (l : List ℕ). little_number 1 l) first in omega (arith, w, is) in
    written_same I at (b ∷ []) (omega arith) (sym (first ∙ ap (λ (n : ℕ). n ∷ []) value))

-- ---- the header

pub method_again : (I : List ℕ) (number other : ℕ) → 564 ≤ length I → All IsByte I → number < 256 → other < 256 → num I 513 1 ≡ number → with_method number (with_method other I) ≡ I
unfolding with_method with_carried
method_again I number other long all fits other_fits is =
    let J = written I 513 (other ∷ []) in
    let size : length J ≡ length I = length_written I 513 (other ∷ []) (omega arith) in
    let J_all = written_bytes I 513 (other ∷ []) all (one_byte other other_fits) in
    let old = bytes_at I full_span in
    let new = bytes_at J full_span in
    let check = num J 524 4 in
    let over = carried check old new in
    let over_fits = carried_fits check old new (num_fits J 524 J_all) (span_bytes I full_span all) (span_bytes J full_span J_all) in
    let four = little_bytes 4 over in
    let four_long : length four ≡ 4 = length-bytes_low_first 0 4 over in
    let K = written J 524 four in
    let K_long : length K ≡ length I = length_written J 524 four (omega (arith, size, four_long)) ∙ size in
    let K_full : bytes_at K full_span ≡ new = bytes_elsewhere J 524 four full_span (omega (arith, size, four_long)) (inl (omega arith)) in
    let back : written K 513 (number ∷ []) ≡ written I 524 four =
    sym (written_apart J 513 (number ∷ []) 524 four (omega arith) (omega (arith, size, four_long)))
    ∙ ap (λ l. written l 524 four) (written_again I 513 (other ∷ []) (number ∷ []) refl (omega arith) ∙ byte_stands I 513 number (omega arith) is) in
    let L = written I 524 four in
    let L_full : bytes_at L full_span ≡ old = bytes_elsewhere I 524 four full_span (omega (arith, four_long)) (inl (omega arith)) in
    let L_check : num L 524 4 ≡ over = num_written I 524 over (omega arith) over_fits in
    let was : check ≡ num I 524 4 = num_elsewhere I 513 (other ∷ []) 524 4 (omega arith) (inr (omega arith)) in
    rw (back, K_full, L_full, L_check, carried_back check old new)
    (ap (λ n. written L 524 (little_bytes 4 n)) was
    ∙ written_again I 524 four (little_bytes 4 (num I 524 4)) (four_long ∙ sym (length-bytes_low_first 0 4 (num I 524 4))) (omega (arith, four_long))
    ∙ num_stands I 524 (omega arith) all)
