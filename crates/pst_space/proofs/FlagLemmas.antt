-- Flags as bits of words.
use Rattle.std.proofs.Common.{◌≡◌, ◌≢◌, ℕ, suc, zero, ◌+◌, ◌-◌, ◌*◌, ◌/◌, ◌%◌, ◌^◌, ◌<◌, ◌≤◌, Bool, true, false, List, length, get_or, set, replicate, Some, None, refl, sym, ap, ◌∙◌, arith, ◌⊎◌, inl, inr, get_or-set_other, get_or-set_same, length-set}
use Rattle.std.specs.Prelude.{bit_or, nat_eq}
use Rattle.std.specs.Int.{bit_at}
use Rattle.std.proofs.lemmas.Bool.{cases_eq}
use Rattle.std.specs.Int.{w64}
use Rattle.std.proofs.lemmas.Nat.{shr-shr, shr_split}
use Rattle.std.proofs.lemmas.Nat.Bits.{bit_at_set_same, bit_at_set_other, bit_at_cat_low}
use Rattle.pst_space.specs.Flags.{flag_in, flags_from, clear_in, with_flag, with_flags}
use Rattle.pst_bytes.specs.declared.span.Span.{Span}
use Rattle.pst_space.specs.Claimed.{Claimed, is_clear, filled, first_unit, unit_count, IsUnits, claim_of, with_span}

pub length_flags : (words : List ℕ) (unit n : ℕ) → length (flags_from words unit n) ≡ n
length_flags words unit zero = refl
length_flags words unit (suc n) = ap suc (length_flags words (unit + 1) n)

flag_same : (words : List ℕ) (unit : ℕ) → unit / 64 < length words → flag_in (with_flag words unit) unit ≡ true
unfolding flag_in with_flag
flag_same words unit inside =
    let within : unit % 64 < 64 = omega arith in
    rw (get_or-set_same words (unit / 64) (bit_or (get_or words (unit / 64) 0) (1 * 2 ^ (unit % 64) % 2 ^ 64)) 0 inside, bit_at_set_same w64 (get_or words (unit / 64) 0) (unit % 64) within) refl

same_or_not : (a b : ℕ) → (a ≡ b) ⊎ (a ≢ b)
same_or_not a b = cases_eq a b

flag_other : (words : List ℕ) (unit other : ℕ) → unit / 64 < length words → other ≢ unit → flag_in (with_flag words unit) other ≡ flag_in words other
unfolding flag_in with_flag
flag_other words unit other inside ne =
    let word = bit_or (get_or words (unit / 64) 0) (1 * 2 ^ (unit % 64) % 2 ^ 64) in
    elim (same_or_not (other / 64) (unit / 64)) [
      | inl same ↦
          let within : unit % 64 < 64 = omega arith in
          let apart : other % 64 ≢ unit % 64 = λ e. ne (omega arith) in
          rw (same, get_or-set_same words (unit / 64) word 0 inside, bit_at_set_other w64 (get_or words (unit / 64) 0) (unit % 64) within (other % 64) apart) refl
      | inr differ ↦ rw (get_or-set_other words (unit / 64) (other / 64) word 0 differ) refl
    ]

-- the low bits of a number are those of its rest
low_bit : (n k i : ℕ) → i < k → bit_at (n % 2 ^ k) i ≡ bit_at n i
low_bit n k i within = sym (bit_at_cat_low (n / 2 ^ k) k (n % 2 ^ k) i within) ∙ ap (λ x. bit_at x i) (shr_split n k)

-- a byte of a word has its flags
pub flag_of_eight : (words : List ℕ) (unit i : ℕ) → unit % 8 ≡ 0 → i < 8 → nat_eq (bit_at (get_or words (unit / 64) 0 / 2 ^ (unit % 64) % 256) i) 1 ≡ flag_in words (unit + i)
unfolding flag_in
flag_of_eight words unit i whole within =
    let word : (unit + i) / 64 ≡ unit / 64 = omega arith in
    let at : (unit + i) % 64 ≡ unit % 64 + i = omega arith in
    let n = get_or words (unit / 64) 0 in
    let bit : bit_at (n / 2 ^ (unit % 64) % 2 ^ 8) i ≡ bit_at n (unit % 64 + i) =
    low_bit (n / 2 ^ (unit % 64)) 8 i within ∙ ap (λ x. x % 2) (shr-shr n (unit % 64) i) in
    rw (word, at, bit) refl

flags_past : (words : List ℕ) (unit from n : ℕ) → unit / 64 < length words → unit < from → flags_from (with_flag words unit) from n ≡ flags_from words from n
flags_past words unit from zero inside lt = refl
flags_past words unit from (suc n) inside lt =
    let ne : from ≢ unit = λ e. omega arith in
    rw (flag_other words unit from inside ne, flags_past words unit (from + 1) n inside (omega arith)) refl

flags_set_from : (words : List ℕ) (unit from k n : ℕ) → unit / 64 < length words → unit ≡ from + k → flags_from (with_flag words unit) from n ≡ set (flags_from words from n) k true
flags_set_from words unit from k zero inside e = refl
flags_set_from words unit from zero (suc n) inside e =
    let here : from ≡ unit = omega arith in
    let set_here : flag_in (with_flag words unit) from ≡ true = rw here (flag_same words unit inside) in
    rw (set_here, flags_past words unit (from + 1) n inside (omega arith)) refl
flags_set_from words unit from (suc k) (suc n) inside e =
    let ne : from ≢ unit = λ h. omega arith in
    rw (flag_other words unit from inside ne, flags_set_from words unit (from + 1) k n inside (omega arith)) refl

-- one more bit is one more flag
pub flags_set : (words : List ℕ) (unit n : ℕ) → unit / 64 < length words → flags_from (with_flag words unit) 0 n ≡ set (flags_from words 0 n) unit true
flags_set words unit n inside = flags_set_from words unit 0 unit n inside (omega arith)

-- the flag of a unit in the list
flag_at_from : (words : List ℕ) (from n k : ℕ) → k < n → get_or (flags_from words from n) k false ≡ flag_in words (from + k)
flag_at_from words from zero k lt = absurd (omega arith)
flag_at_from words from (suc n) zero lt = let e : from + 0 ≡ from = omega arith in rw e refl
flag_at_from words from (suc n) (suc k) lt =
    let e : from + suc k ≡ (from + 1) + k = omega arith in
    rw e (flag_at_from words (from + 1) n k (omega arith))

pub flag_at : (words : List ℕ) (n unit : ℕ) → unit < n → get_or (flags_from words 0 n) unit false ≡ flag_in words unit
flag_at words n unit lt = let e : 0 + unit ≡ unit = omega arith in flag_at_from words 0 n unit lt ∙ ap (flag_in words) e

flag_past_from : (words : List ℕ) (from n k : ℕ) → n ≤ k → get_or (flags_from words from n) k false ≡ false
flag_past_from words from zero k le = refl
flag_past_from words from (suc n) zero le = absurd (omega arith)
flag_past_from words from (suc n) (suc k) le = flag_past_from words (from + 1) n k (omega arith)

pub flag_past : (words : List ℕ) (n unit : ℕ) → n ≤ unit → get_or (flags_from words 0 n) unit false ≡ false
flag_past words n unit le = flag_past_from words 0 n unit le

-- words of zeros have no flag
zero_word : (n i : ℕ) → get_or {A = ℕ} (replicate n 0) i 0 ≡ 0
zero_word zero i = refl
zero_word (suc n) zero = refl
zero_word (suc n) (suc i) = zero_word n i

no_bit : (k : ℕ) → bit_at 0 k ≡ 0
no_bit k = omega arith

flag_of_zeros : (words unit : ℕ) → flag_in (replicate words 0) unit ≡ false
unfolding flag_in
flag_of_zeros words unit = rw (zero_word words (unit / 64), no_bit (unit % 64)) refl

flags_of_zeros_from : (words from n : ℕ) → flags_from (replicate words 0) from n ≡ replicate n false
flags_of_zeros_from words from zero = refl
flags_of_zeros_from words from (suc n) = rw (flag_of_zeros words from, flags_of_zeros_from words (from + 1) n) refl

pub flags_of_zeros : (words : List ℕ) (n units : ℕ) → words ≡ replicate n 0 → flags_from words 0 units ≡ replicate units false
flags_of_zeros words n units e = rw e (flags_of_zeros_from n 0 units)

-- ---- several units

pub clear_in_end : (words : List ℕ) (unit n i : ℕ) → n ≤ i → clear_in words (unit + i) (n - i) ≡ true
clear_in_end words unit n i le =
    let k : n - i ≡ 0 = omega arith in
    rw k refl

pub with_flags_end : (words : List ℕ) (unit n i : ℕ) → n ≤ i → with_flags words (unit + i) (n - i) ≡ words
with_flags_end words unit n i le =
    let k : n - i ≡ 0 = omega arith in
    rw k refl

length_with_flag : (words : List ℕ) (unit : ℕ) → length (with_flag words unit) ≡ length words
unfolding with_flag
length_with_flag words unit = length-set words (unit / 64) (bit_or (get_or words (unit / 64) 0) (1 * 2 ^ (unit % 64) % 2 ^ 64))

pub length_with_flags : (words : List ℕ) (unit n : ℕ) → length (with_flags words unit n) ≡ length words
length_with_flags words unit zero = refl
length_with_flags words unit (suc n) = length_with_flags (with_flag words unit) (unit + 1) n ∙ length_with_flag words unit

-- the units are clear exactly where their flags in the list are
pub clear_in_is : (words : List ℕ) (units unit n : ℕ) → unit + n ≤ units → is_clear (flags_from words 0 units) unit n ≡ clear_in words unit n
clear_in_is words units unit zero le = refl
clear_in_is words units unit (suc n) le = rw (flag_at words units unit (omega arith), clear_in_is words units (unit + 1) n (omega arith)) refl

-- the flags of the list are filled
pub with_flags_is : (words : List ℕ) (units unit n : ℕ) → unit + n ≤ 64 * length words → flags_from (with_flags words unit n) 0 units ≡ filled (flags_from words 0 units) unit n
with_flags_is words units unit zero le = refl
with_flags_is words units unit (suc n) le =
    with_flags_is (with_flag words unit) units (unit + 1) n (omega (arith, length_with_flag words unit))
    ∙ ap (λ (f : List Bool). filled f (unit + 1) n) (flags_set words unit units (omega arith))

-- ---- a span

-- the flags of a span are set
pub span_filled : (old : Claimed) (words new : List ℕ) (units : ℕ) (span : Span) → old ≡ flags_from words 0 units → IsUnits old span → units ≤ 64 * length words → new ≡ with_flags words (first_unit span) (unit_count span) → flags_from new 0 units ≡ with_span old span
unfolding with_span
span_filled old words new units span is u room e =
    let inside : first_unit span + unit_count span ≤ units = omega (arith, u.inside, ap length is, length_flags words 0 units) in
    rw (is, e) (with_flags_is words units (first_unit span) (unit_count span) (omega arith))

pub claim_made : (old : Claimed) (words new : List ℕ) (units : ℕ) (span : Span) → old ≡ flags_from words 0 units → IsUnits old span → units ≤ 64 * length words → clear_in words (first_unit span) (unit_count span) ≡ true → new ≡ with_flags words (first_unit span) (unit_count span) → claim_of old span ≡ Some (flags_from new 0 units)
unfolding claim_of with_span
claim_made old words new units span is u room clear e =
    let inside : first_unit span + unit_count span ≤ units = omega (arith, u.inside, ap length is, length_flags words 0 units) in
    rw (is, clear_in_is words units (first_unit span) (unit_count span) inside, clear, e)
    (ap Some (sym (with_flags_is words units (first_unit span) (unit_count span) (omega arith))))

pub claim_refused : (old : Claimed) (words : List ℕ) (units : ℕ) (span : Span) → old ≡ flags_from words 0 units → IsUnits old span → clear_in words (first_unit span) (unit_count span) ≡ false → claim_of old span ≡ None
unfolding claim_of
claim_refused old words units span is u clash =
    let inside : first_unit span + unit_count span ≤ units = omega (arith, u.inside, ap length is, length_flags words 0 units) in
    rw (is, clear_in_is words units (first_unit span) (unit_count span) inside, clash) refl
