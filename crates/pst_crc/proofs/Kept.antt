-- The words that are kept, in three chains side by side.
use Rattle.std.proofs.Common.{◌≡◌, ℕ, zero, suc, ◌+◌, ◌-◌, ◌*◌, ◌^◌, ◌<◌, ◌≤◌, List, length, get_or, refl, sym, ap, ◌∙◌, arith}
use Rattle.std.specs.Prelude.{bit_xor, fold}
use Rattle.std.specs.Int.Bits.{xor_assoc}
use Rattle.pst_crc.specs.Crc.{shifted_by, after_byte}
use Rattle.pst_crc.specs.LeftOut.{word_in, whole_in, fed_words}
use Rattle.pst_crc.proofs.Linear.{shifted_by-xor, shifted_by-block}
use Rattle.pst_crc.proofs.Words.{shifted_by-add}
use Rattle.pst_crc.proofs.LeftOutLemmas.{fed_within, past_words, fed_bytes}

-- two words as one number
pub two_words : (r i : ℕ) (f : ℕ → ℕ) → shifted_by 64 (bit_xor r (bit_xor (f i) (f (i + 1) * 2 ^ 32))) ≡ fed_words r f i 2
unfolding fed_words
two_words r i f =
    let one : i + 1 ≡ suc i = omega arith in
    let low = bit_xor r (f i) in
    ap (λ j. shifted_by 64 (bit_xor r (bit_xor (f i) (f j * 2 ^ 32)))) one
    ∙ ap (shifted_by 64) (sym (xor_assoc r (f i) (f (suc i) * 2 ^ 32)))
    ∙ shifted_by-add 32 32 (bit_xor low (f (suc i) * 2 ^ 32))
    ∙ ap (shifted_by 32) (shifted_by-xor 32 low (f (suc i) * 2 ^ 32) ∙ ap (bit_xor (shifted_by 32 low)) (shifted_by-block 32 (f (suc i))))

-- words one after another
fed_more : (j k r i : ℕ) (f : ℕ → ℕ) → fed_words (fed_words r f i j) f (i + j) k ≡ fed_words r f i (j + k)
unfolding fed_words
fed_more zero k r i f =
    let at_i : i + 0 ≡ i = omega arith in
    let count : 0 + k ≡ k = omega arith in
    ap (λ x. fed_words r f x k) at_i ∙ sym (ap (fed_words r f i) count)
fed_more (suc j) k r i f =
    let s = shifted_by 32 (bit_xor r (f i)) in
    let at_next : i + suc j ≡ suc i + j = omega arith in
    let count : suc j + k ≡ suc (j + k) = omega arith in
    ap (λ x. fed_words (fed_words s f (suc i) j) f x k) at_next ∙ fed_more j k s (suc i) f ∙ sym (ap (fed_words r f i) count)

-- a turn takes k words behind j others
pub turn_on : (j k n r i at kept next : ℕ) (f : ℕ → ℕ) → at ≡ i + j → n ≡ j + k → kept ≡ fed_words r f i j → next ≡ fed_words kept f at k → next ≡ fed_words r f i n
turn_on j k n r i at kept next f at_is n_is kept_is next_is =
    next_is ∙ ap (λ x. fed_words x f at k) kept_is ∙ ap (λ x. fed_words (fed_words r f i j) f x k) at_is ∙ fed_more j k r i f ∙ ap (fed_words r f i) (sym n_is)

-- three chains, one after another
pub chains_are : (r i first second third : ℕ) (f : ℕ → ℕ) → first ≡ fed_words r f i 32 → second ≡ fed_words 0 f (i + 32) 32 → third ≡ fed_words 0 f (i + 64) 32
    → bit_xor (shifted_by 1024 (bit_xor (shifted_by 1024 first) second)) third ≡ fed_words r f i 96
chains_are r i first second third f is is_second is_third =
    let two = bit_xor (shifted_by 1024 first) second in
    let of_two : two ≡ fed_words r f i 64 =
    turn_on 32 32 64 r i (i + 32) first two f refl refl is (ap (bit_xor (shifted_by 1024 first)) is_second ∙ past_words 32 first (i + 32) f) in
    turn_on 64 32 96 r i (i + 64) two (bit_xor (shifted_by 1024 two) third) f refl refl of_two (ap (bit_xor (shifted_by 1024 two)) is_third ∙ past_words 32 two (i + 64) f)

-- ---- all of it

-- n words were left out, and 300 are kept
pub all_fed : (i n r kept : ℕ) (bytes words whole : List ℕ) → n ≤ i → i ≤ n → length bytes ≡ 4 * (n + 300) → ((j : ℕ) → get_or bytes j 0 < 256)
    → fed_words 0 (whole_in bytes words) i (n - i + 300) ≡ fed_words r (word_in bytes) 0 (n + 300)
    → ((j : ℕ) → n ≤ j → j < n + 300 → get_or whole j 0 ≡ whole_in bytes words j)
    → kept ≡ fed_words 0 (λ j. get_or whole j 0) n 300 → kept ≡ fold after_byte r bytes
all_fed i n r kept bytes words whole le ge len fits same made is =
    let at_n : i ≡ n = omega (arith, le, ge) in
    let count : n - i + 300 ≡ 300 = omega (arith, le) in
    is ∙ fed_within 300 0 n (λ j. get_or whole j 0) (whole_in bytes words) made
    ∙ sym (ap (λ x. fed_words 0 (whole_in bytes words) x 300) at_n) ∙ sym (ap (fed_words 0 (whole_in bytes words) i) count)
    ∙ same ∙ sym (fed_bytes (n + 300) 0 r bytes (omega (arith, len)) fits)
