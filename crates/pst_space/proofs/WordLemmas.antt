-- Several flags of one word at once, by a mask of so many bits from one on.
use Rattle.std.proofs.Common.{◌≡◌, ℕ, suc, zero, ◌+◌, ◌-◌, ◌*◌, ◌/◌, ◌%◌, ◌^◌, ◌<◌, ◌≤◌, Bool, true, false, List, length, get_or, set, refl, sym, ap, ◌∙◌, arith, inl, inr, get_or-set_same, length-set, min, max}
use Rattle.std.specs.Prelude.{bit_and, bit_or, nat_eq, not, ◌&&◌}
use Rattle.std.specs.Int.{bit_at}
use Rattle.std.proofs.Math.Pow.{high_ones, pow_mono}
use Rattle.std.proofs.lemmas.Bool.{cases_lt, and_parts}
use Rattle.std.proofs.lemmas.Bool.Decides.{eqb_tells}
use Rattle.std.proofs.lemmas.List.{set-set}
use Rattle.std.proofs.lemmas.Nat.{one_shl, pow_pos}
use Rattle.std.proofs.lemmas.Nat.Bits.{ones_shr, bit_at-lt, bit_at-zero, bit_at_and, bit_at_or, bit_at-pow_same, bit_at-pow_other, bit_at_mask_inside, bit_at_mask_below, bit_at_mask_above, same_from_bits}
use Rattle.pst_space.specs.Flags.{flag_in, clear_in, with_flag, with_flags}

-- so many bits from one on, made by shifts
pub mask_is : (low count : ℕ) → 0 < count → low + count ≤ 64 → 18446744073709551615 / 2 ^ (64 - count) * 2 ^ low % 18446744073709551616 ≡ 2 ^ (low + count) - 2 ^ low
mask_is low count some fits =
    let left : 64 - (64 - count) ≡ count = omega arith in
    let ones : (2 ^ 64 - 1) / 2 ^ (64 - count) ≡ 2 ^ count - 1 = ones_shr 64 (64 - count) (omega arith) ∙ ap (λ (k : ℕ). 2 ^ k - 1) left in
    let turned : count + low ≡ low + count = omega arith in
    let shifted : (2 ^ count - 1) * 2 ^ low ≡ 2 ^ (low + count) - 2 ^ low = sym (high_ones count low) ∙ ap (λ (k : ℕ). 2 ^ k - 2 ^ low) turned in
    let most : 2 ^ (low + count) ≤ 2 ^ 64 = pow_mono fits in
    let some_low : 0 < 2 ^ low = pow_pos low in
    rw (ones, shifted) (omega arith)

-- ---- no bit of a mask

no_one : (b : ℕ) → b < 2 → nat_eq b 1 ≡ false → b ≡ 0
no_one zero lt e = refl
no_one (suc zero) lt e = cc
no_one (suc (suc b)) lt e = absurd (omega arith)

masked_none : (word low high i : ℕ) → bit_and word (2 ^ high - 2 ^ low) ≡ 0 → low ≤ i → i < high → bit_at word i ≡ 0
masked_none word low high i e from below =
    let none : bit_at (bit_and word (2 ^ high - 2 ^ low)) i ≡ 0 = ap (λ x. bit_at x i) e ∙ bit_at-zero i in
    let inside : bit_at (2 ^ high - 2 ^ low) i ≡ 1 = bit_at_mask_inside low high i from below in
    let least : min (bit_at word i) (bit_at (2 ^ high - 2 ^ low) i) ≡ 0 = sym (bit_at_and word (2 ^ high - 2 ^ low) i) ∙ none in
    omega (arith, bit_at-lt word i)

none_masked : (word low high : ℕ) → ((i : ℕ) → low ≤ i → i < high → bit_at word i ≡ 0) → bit_and word (2 ^ high - 2 ^ low) ≡ 0
none_masked word low high none = same_from_bits (bit_and word (2 ^ high - 2 ^ low)) 0 (λ i. bit_at_and word (2 ^ high - 2 ^ low) i ∙ least i ∙ sym (bit_at-zero i))
  where
    least : (i : ℕ) → min (bit_at word i) (bit_at (2 ^ high - 2 ^ low) i) ≡ 0
    least i =
        elim (cases_lt i low) [
          | inl below ↦ omega (arith, bit_at_mask_below low high i below)
          | inr from ↦ elim (cases_lt i high) [
            | inl inside ↦ omega (arith, none i from inside)
            | inr above ↦ omega (arith, bit_at_mask_above low high i above)
          ]
        ]

-- the flag of a unit of the same word
flag_is : (words : List ℕ) (unit n i : ℕ) → unit % 64 + n ≤ 64 → i < n → flag_in words (unit + i) ≡ nat_eq (bit_at (get_or words (unit / 64) 0) (unit % 64 + i)) 1
unfolding flag_in
flag_is words unit n i fits lt =
    let word : (unit + i) / 64 ≡ unit / 64 = omega arith in
    let at : (unit + i) % 64 ≡ unit % 64 + i = omega arith in
    rw (word, at) refl

not_true : (x : Bool) → not x ≡ true → x ≡ false
not_true true e = cc
not_true false e = refl

each_clear : (words : List ℕ) (unit n i : ℕ) → clear_in words unit n ≡ true → i < n → flag_in words (unit + i) ≡ false
each_clear words unit zero i e lt = absurd (omega arith)
each_clear words unit (suc n) zero e lt =
    let at : unit + 0 ≡ unit = omega arith in
    rw at (not_true (flag_in words unit) (and_parts (not (flag_in words unit)) (clear_in words (unit + 1) n) e).0)
each_clear words unit (suc n) (suc i) e lt =
    let at : unit + suc i ≡ (unit + 1) + i = omega arith in
    rw at (each_clear words (unit + 1) n i (and_parts (not (flag_in words unit)) (clear_in words (unit + 1) n) e).1 (omega arith))

all_flags_clear : (words : List ℕ) (unit n : ℕ) → ((i : ℕ) → i < n → flag_in words (unit + i) ≡ false) → clear_in words unit n ≡ true
all_flags_clear words unit zero none = refl
all_flags_clear words unit (suc n) none =
    let at : unit + 0 ≡ unit = omega arith in
    let here : flag_in words unit ≡ false = (rw at at (none 0 (omega arith))) in
    let rest : (i : ℕ) → i < n → flag_in words ((unit + 1) + i) ≡ false =
    λ i lt. let e : (unit + 1) + i ≡ unit + suc i = omega arith in rw e (none (suc i) (omega arith)) in
    rw (here, all_flags_clear words (unit + 1) n rest) refl

-- so many units of one word are clear exactly where the mask has no bit in common with it
pub clear_in_word : (words : List ℕ) (unit n : ℕ) → unit % 64 + n ≤ 64 → nat_eq (bit_and (get_or words (unit / 64) 0) (2 ^ (unit % 64 + n) - 2 ^ (unit % 64))) 0 ≡ clear_in words unit n
clear_in_word words unit n fits = by_flag (clear_in words unit n) refl
  where
    masked : ℕ
    masked = bit_and (get_or words (unit / 64) 0) (2 ^ (unit % 64 + n) - 2 ^ (unit % 64))

    bit_clear : clear_in words unit n ≡ true → (i : ℕ) → unit % 64 ≤ i → i < unit % 64 + n → bit_at (get_or words (unit / 64) 0) i ≡ 0
    bit_clear clear i from below =
        let k : unit % 64 + (i - unit % 64) ≡ i = omega arith in
        let flag : nat_eq (bit_at (get_or words (unit / 64) 0) (unit % 64 + (i - unit % 64))) 1 ≡ false =
        sym (flag_is words unit n (i - unit % 64) fits (omega arith)) ∙ each_clear words unit n (i - unit % 64) clear (omega arith) in
        no_one (bit_at (get_or words (unit / 64) 0) i) (bit_at-lt (get_or words (unit / 64) 0) i) (rw k at flag)

    flag_clear : masked ≡ 0 → (i : ℕ) → i < n → flag_in words (unit + i) ≡ false
    flag_clear e i lt =
        flag_is words unit n i fits lt
        ∙ rw (masked_none (get_or words (unit / 64) 0) (unit % 64) (unit % 64 + n) (unit % 64 + i) e (omega arith) (omega arith)) refl

    by_flag : (f : Bool) → clear_in words unit n ≡ f → nat_eq masked 0 ≡ f
    by_flag true clear = rw (none_masked (get_or words (unit / 64) 0) (unit % 64) (unit % 64 + n) (bit_clear clear)) refl
    by_flag false clash =
        elim (eqb_tells masked 0) [
          | inl none ↦ let impossible : true ≡ false = sym (all_flags_clear words unit n (flag_clear none.1)) ∙ clash in cc
          | inr some ↦ some.0
        ]

-- ---- all bits of a mask

one_more_bit : (word low n : ℕ) → bit_or (bit_or word (2 ^ low)) (2 ^ ((low + 1) + n) - 2 ^ (low + 1)) ≡ bit_or word (2 ^ (low + suc n) - 2 ^ low)
one_more_bit word low n =
    same_from_bits (bit_or (bit_or word (2 ^ low)) (2 ^ ((low + 1) + n) - 2 ^ (low + 1))) (bit_or word (2 ^ (low + suc n) - 2 ^ low))
    (λ i. bit_at_or (bit_or word (2 ^ low)) (2 ^ ((low + 1) + n) - 2 ^ (low + 1)) i ∙ most i ∙ sym (bit_at_or word (2 ^ (low + suc n) - 2 ^ low) i))
  where
    most : (i : ℕ) → max (bit_at (bit_or word (2 ^ low)) i) (bit_at (2 ^ ((low + 1) + n) - 2 ^ (low + 1)) i) ≡ max (bit_at word i) (bit_at (2 ^ (low + suc n) - 2 ^ low) i)
    most i =
        let first = bit_at_or word (2 ^ low) i in
        elim (cases_lt i low) [
          | inl below ↦ omega (arith, first, bit_at-pow_other low i (λ e. omega arith), bit_at_mask_below (low + 1) ((low + 1) + n) i (omega arith), bit_at_mask_below low (low + suc n) i below)
          | inr from ↦ elim (cases_lt low i) [
            | inl behind ↦ elim (cases_lt i (low + suc n)) [
              | inl inside ↦ omega (arith, first, bit_at-pow_other low i (λ e. omega arith), bit_at_mask_inside (low + 1) ((low + 1) + n) i (omega arith) (omega arith), bit_at_mask_inside low (low + suc n) i from inside)
              | inr above ↦ omega (arith, first, bit_at-pow_other low i (λ e. omega arith), bit_at_mask_above (low + 1) ((low + 1) + n) i (omega arith), bit_at_mask_above low (low + suc n) i above)
            ]
            | inr at ↦
                let same : i ≡ low = omega arith in
                let one : bit_at (2 ^ low) i ≡ 1 = rw same (bit_at-pow_same low) in
                omega (arith, first, bit_at-lt word i, bit_at_mask_below (low + 1) ((low + 1) + n) i (omega arith), bit_at_mask_inside low (low + suc n) i from (omega arith))
          ]
        ]

one_bit : (low : ℕ) → 2 ^ (low + 1) - 2 ^ low ≡ 2 ^ low
one_bit low = let e : 1 + low ≡ low + 1 = omega arith in ap (λ (k : ℕ). 2 ^ k - 2 ^ low) (sym e) ∙ high_ones 1 low ∙ omega arith

-- so many units of one word are set by a mask
pub with_flags_word : (words : List ℕ) (unit n : ℕ) → 0 < n → unit % 64 + n ≤ 64 → unit / 64 < length words → with_flags words unit n ≡ set words (unit / 64) (bit_or (get_or words (unit / 64) 0) (2 ^ (unit % 64 + n) - 2 ^ (unit % 64)))
unfolding with_flag
with_flags_word words unit zero some fits inside = absurd (omega arith)
with_flags_word words unit (suc zero) some fits inside =
    rw (one_shl (unit % 64) 64 (omega arith), one_bit (unit % 64)) refl
with_flags_word words unit (suc (suc n)) some fits inside =
    let k = unit / 64 in
    let word = get_or words k 0 in
    let more = with_flag words unit in
    let same : (unit + 1) / 64 ≡ unit / 64 = omega arith in
    let next : (unit + 1) % 64 ≡ unit % 64 + 1 = omega arith in
    let first : more ≡ set words k (bit_or word (2 ^ (unit % 64))) = rw (one_shl (unit % 64) 64 (omega arith)) refl in
    let length_is : length more ≡ length words = rw first (length-set words k (bit_or word (2 ^ (unit % 64)))) in
    let there : get_or more k 0 ≡ bit_or word (2 ^ (unit % 64)) = rw first (get_or-set_same words k (bit_or word (2 ^ (unit % 64))) 0 inside) in
    with_flags_word more (unit + 1) (suc n) (omega arith) (omega arith) (omega arith)
    ∙ rw (same, next, there, one_more_bit word (unit % 64) (suc n), first, set-set words k (bit_or word (2 ^ (unit % 64))) (bit_or word (2 ^ (unit % 64 + suc (suc n)) - 2 ^ (unit % 64)))) refl

-- ---- word after word

clear_in_split : (words : List ℕ) (unit a b : ℕ) → clear_in words unit (a + b) ≡ (clear_in words unit a && clear_in words (unit + a) b)
clear_in_split words unit zero b =
    let n : 0 + b ≡ b = omega arith in
    let at : unit + 0 ≡ unit = omega arith in
    rw (n, at) refl
clear_in_split words unit (suc a) b =
    let n : suc a + b ≡ suc (a + b) = omega arith in
    let at : unit + suc a ≡ (unit + 1) + a = omega arith in
    rw (n, at, clear_in_split words (unit + 1) a b) (grouped (not (flag_in words unit)) (clear_in words (unit + 1) a) (clear_in words ((unit + 1) + a) b))
  where
    grouped : (x y z : Bool) → (x && (y && z)) ≡ ((x && y) && z)
    grouped true y z = refl
    grouped false y z = refl

pub clear_in_more : (words : List ℕ) (first count done next : ℕ) → done + next ≤ count → clear_in words (first + done) next ≡ true → clear_in words (first + done) (count - done) ≡ clear_in words (first + (done + next)) (count - (done + next))
clear_in_more words first count done next le clear =
    let n : count - done ≡ next + (count - (done + next)) = omega arith in
    let at : (first + done) + next ≡ first + (done + next) = omega arith in
    rw (n, clear_in_split words (first + done) next (count - (done + next)), clear, at) refl

pub clear_in_less : (words : List ℕ) (first count done next : ℕ) → done + next ≤ count → clear_in words (first + done) next ≡ false → clear_in words (first + done) (count - done) ≡ false
clear_in_less words first count done next le clash =
    let n : count - done ≡ next + (count - (done + next)) = omega arith in
    rw (n, clear_in_split words (first + done) next (count - (done + next)), clash) refl

with_flags_split : (words : List ℕ) (unit a b : ℕ) → with_flags words unit (a + b) ≡ with_flags (with_flags words unit a) (unit + a) b
with_flags_split words unit zero b =
    let n : 0 + b ≡ b = omega arith in
    let at : unit + 0 ≡ unit = omega arith in
    rw (n, at) refl
with_flags_split words unit (suc a) b =
    let n : suc a + b ≡ suc (a + b) = omega arith in
    let at : unit + suc a ≡ (unit + 1) + a = omega arith in
    rw (n, at) (with_flags_split (with_flag words unit) (unit + 1) a b)

pub with_flags_more : (words : List ℕ) (first count done next : ℕ) → done + next ≤ count → with_flags words (first + done) (count - done) ≡ with_flags (with_flags words (first + done) next) (first + (done + next)) (count - (done + next))
with_flags_more words first count done next le =
    let n : count - done ≡ next + (count - (done + next)) = omega arith in
    let at : (first + done) + next ≡ first + (done + next) = omega arith in
    rw (n, with_flags_split words (first + done) next (count - (done + next)), at) refl
