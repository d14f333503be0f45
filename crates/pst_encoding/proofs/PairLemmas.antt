-- What all pairs of bytes become, put together in a table, and bytes that are decoded by it.
use Rattle.std.proofs.Common.{◌≡◌, ℕ, ◌+◌, ◌*◌, ◌/◌, ◌%◌, ◌<◌, List, [], ◌∷◌, ◌++◌, length, get_or, set, take, drop, map, refl, sym, ap, ◌∙◌, append_assoc, arith}
use Rattle.std.proofs.lemmas.List.{map-append, take-append-drop, drop-drop}
use Rattle.std.proofs.lemmas.List.FromFn.{get_or-map-range_with_len, length-map-range_with_len, map-range_with_len_more}
use Rattle.pst_encoding.specs.Tables.{i_of}
use Rattle.pst_encoding.specs.Pairs.{unpermuted_pair, pairs_of}
use Rattle.pst_encoding.proofs.TableLemmas.{tables_law}

pub pairs_none : pairs_of 0 ≡ []
unfolding pairs_of
pairs_none = refl

pub pairs_more : (n p : ℕ) → p ≡ i_of (n % 256) + 256 * i_of (n / 256) → pairs_of n ++ p ∷ [] ≡ pairs_of (n + 1)
unfolding pairs_of
pairs_more n p is = ap (λ x. pairs_of n ++ x ∷ []) is ∙ sym (map-range_with_len_more unpermuted_pair 0 n n (omega arith))

pub pairs_long : (n : ℕ) → length (pairs_of n) ≡ n
unfolding pairs_of
pairs_long n = length-map-range_with_len unpermuted_pair 0 n

pair_at : (n i : ℕ) → i < n → get_or (pairs_of n) i 0 ≡ unpermuted_pair i
unfolding pairs_of
pair_at n i lt = get_or-map-range_with_len unpermuted_pair 0 n i i 0 lt (omega arith)

-- the entry of a pair of bytes
entry_is : (pairs : List ℕ) (low high i : ℕ) → pairs ≡ pairs_of 65536 → low < 256 → high < 256 → i ≡ low + 256 * high → get_or pairs i 0 ≡ i_of low + 256 * i_of high
entry_is pairs low high i table low_fits high_fits place =
    let within : i < 65536 = omega arith in
    let first : i % 256 ≡ low = omega arith in
    let second : i / 256 ≡ high = omega arith in
    ap (λ l. get_or l i 0) table ∙ pair_at 65536 i within ∙ ap (λ h. i_of (i % 256) + 256 * i_of h) second ∙ ap (λ l. i_of l + 256 * i_of high) first

pub entry_low : (pairs : List ℕ) (low high i : ℕ) → pairs ≡ pairs_of 65536 → low < 256 → high < 256 → i ≡ low + 256 * high → get_or pairs i 0 % 256 ≡ i_of low
entry_low pairs low high i table low_fits high_fits place =
    let byte = (tables_law low low_fits).i_byte in
    let half : (i_of low + 256 * i_of high) % 256 ≡ i_of low = omega (arith, byte) in
    ap (λ e. e % 256) (entry_is pairs low high i table low_fits high_fits place) ∙ half

pub entry_high : (pairs : List ℕ) (low high i : ℕ) → pairs ≡ pairs_of 65536 → low < 256 → high < 256 → i ≡ low + 256 * high → get_or pairs i 0 / 256 ≡ i_of high
entry_high pairs low high i table low_fits high_fits place =
    let byte = (tables_law low low_fits).i_byte in
    let half : (i_of low + 256 * i_of high) / 256 ≡ i_of high = omega (arith, byte) in
    ap (λ e. e / 256) (entry_is pairs low high i table low_fits high_fits place) ∙ half

-- two bytes, each from its half of what the pair becomes
pub two_decoded : (s : List ℕ) (p : ℕ) → length s ≡ 2 → p % 256 ≡ i_of (get_or s 0 0) → p / 256 ≡ i_of (get_or s 1 0) → set (set s 0 (p % 256)) 1 (p / 256) ≡ map i_of s
two_decoded [] p long low high = absurd cc
two_decoded (a ∷ []) p long low high = absurd cc
two_decoded (a ∷ b ∷ []) p long low high = rw (low, high) refl
two_decoded (a ∷ b ∷ c ∷ rest) p long low high = absurd (omega (arith, long))

-- Some more bytes are decoded: they, those before and those that are left are all of them.
pub more_decoded : (at next n : ℕ) (s t piece done : List ℕ) → next ≡ at + n → piece ≡ map i_of (take n (drop at s)) → take next t ≡ take at s ++ piece → drop next t ≡ drop next s
    → take at s ++ map i_of (drop at s) ≡ done → take next t ++ map i_of (drop next t) ≡ done
more_decoded at next n s t piece done is made first last so_far =
    let rest : drop n (drop at s) ≡ drop next s = drop-drop n at s ∙ ap (λ k. drop k s) (sym is) in
    let left : map i_of (drop at s) ≡ piece ++ map i_of (drop next s) =
    ap (map i_of) (sym (take-append-drop n (drop at s))) ∙ map-append i_of (take n (drop at s)) (drop n (drop at s))
    ∙ ap (λ l. l ++ map i_of (drop n (drop at s))) (sym made) ∙ ap (λ l. piece ++ map i_of l) rest in
    rw (first, last, append_assoc) (ap (λ l. take at s ++ l) (sym left) ∙ so_far)
