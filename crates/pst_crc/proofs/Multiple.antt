-- What a word makes of the register, it makes of it in four places behind its own together: the polynomial has a multiple with
-- five terms.
use Rattle.std.proofs.Common.{◌≡◌, ℕ, zero, suc, ◌+◌, ◌-◌, ◌*◌, ◌^◌, ◌<◌, ◌≤◌, inl, inr, refl, sym, ap, ◌∙◌, arith, add-zero, zero-add}
use Rattle.std.specs.Prelude.{bit_xor}
use Rattle.std.specs.Int.Bits.{xor_assoc, xor_zero_l, xor_zero_r}
use Rattle.std.proofs.lemmas.Bool.{cases_lt}
use Rattle.std.proofs.lemmas.Nat.{xor_comm, xor_block, pow-add, pow_pos}
use Rattle.std.proofs.Math.Nat.{pow-suc, one-mul, zero-mul}
use Rattle.pst_crc.specs.Crc.{shifted_by}
use Rattle.pst_crc.proofs.Linear.{shifted_by-xor, shifted_by-block}
use Rattle.pst_crc.proofs.Words.{shifted_by-add}

-- 300 words on it is what it is 155, 117, 89 and 0 words on, all four added
abbrev pub IsTakenUp : ℕ → Type 0
IsTakenUp v = shifted_by 9600 v ≡ bit_xor (shifted_by 4960 v) (bit_xor (shifted_by 3744 v) (bit_xor (shifted_by 2848 v) v))

-- of the highest bit, computed
of_highest : IsTakenUp (2 ^ 31)
unfolding shifted_by
of_highest = refl

-- ---- it is so of what leaves the register later

turned : (m n v : ℕ) → shifted_by m (shifted_by n v) ≡ shifted_by n (shifted_by m v)
turned m n v =
    let e : n + m ≡ m + n = omega arith in
    sym (shifted_by-add n m v) ∙ ap (λ k. shifted_by k v) e ∙ shifted_by-add m n v

spread : (n a b c d : ℕ) → shifted_by n (bit_xor a (bit_xor b (bit_xor c d))) ≡ bit_xor (shifted_by n a) (bit_xor (shifted_by n b) (bit_xor (shifted_by n c) (shifted_by n d)))
spread n a b c d =
    shifted_by-xor n a (bit_xor b (bit_xor c d))
    ∙ ap (bit_xor (shifted_by n a)) (shifted_by-xor n b (bit_xor c d) ∙ ap (bit_xor (shifted_by n b)) (shifted_by-xor n c d))

later : (n v : ℕ) → IsTakenUp v → IsTakenUp (shifted_by n v)
later n v h =
    rw (turned 9600 n v, turned 4960 n v, turned 3744 n v, turned 2848 n v)
    (ap (shifted_by n) h ∙ spread n (shifted_by 4960 v) (shifted_by 3744 v) (shifted_by 2848 v) v)

-- ---- and of two together

pub regroup : (a b c d : ℕ) → bit_xor (bit_xor a b) (bit_xor c d) ≡ bit_xor (bit_xor a c) (bit_xor b d)
regroup a b c d =
    xor_assoc a b (bit_xor c d)
    ∙ ap (bit_xor a) (sym (xor_assoc b c d) ∙ ap (λ z. bit_xor z d) (xor_comm b c) ∙ xor_assoc c b d)
    ∙ sym (xor_assoc a c (bit_xor b d))

pub regroup_four : (a b c d p q r s : ℕ)
    → bit_xor (bit_xor a (bit_xor b (bit_xor c d))) (bit_xor p (bit_xor q (bit_xor r s)))
    ≡ bit_xor (bit_xor a p) (bit_xor (bit_xor b q) (bit_xor (bit_xor c r) (bit_xor d s)))
regroup_four a b c d p q r s =
    regroup a (bit_xor b (bit_xor c d)) p (bit_xor q (bit_xor r s))
    ∙ ap (bit_xor (bit_xor a p)) (regroup b (bit_xor c d) q (bit_xor r s) ∙ ap (bit_xor (bit_xor b q)) (regroup c d r s))

both : (a b : ℕ) → IsTakenUp a → IsTakenUp b → IsTakenUp (bit_xor a b)
both a b h k =
    rw (shifted_by-xor 9600 a b, shifted_by-xor 4960 a b, shifted_by-xor 3744 a b, shifted_by-xor 2848 a b, h, k)
    (regroup_four (shifted_by 4960 a) (shifted_by 3744 a) (shifted_by 2848 a) a (shifted_by 4960 b) (shifted_by 3744 b) (shifted_by 2848 b) b)

-- ---- so it is of each bit, and of all words

pub of_nothing : (n : ℕ) → shifted_by n 0 ≡ 0
unfolding shifted_by
of_nothing zero = refl
of_nothing (suc n) = of_nothing n

of_zero : IsTakenUp 0
of_zero = rw (of_nothing 9600, of_nothing 4960, of_nothing 3744, of_nothing 2848) refl

of_bit : (n : ℕ) → n < 32 → IsTakenUp (2 ^ n)
of_bit n lt =
    let k = 31 - n in
    let sum : n + k ≡ 31 = omega arith in
    let moved : shifted_by k (2 ^ 31) ≡ 2 ^ n = ap (shifted_by k) (ap (λ m. 2 ^ m) (sym sum) ∙ pow-add 2 n k) ∙ shifted_by-block k (2 ^ n) in
    rw (sym moved) (later k (2 ^ 31) of_highest)

-- a bit above the others
above : (n r : ℕ) → r < 2 ^ n → bit_xor (2 ^ n) r ≡ 2 ^ n + r
above n r lt =
    let block = xor_block n 1 0 0 r (pow_pos n) lt in
    simp (add-zero, zero-add, zero-mul, one-mul, xor_zero_l, xor_zero_r) at block

of_below : (n v : ℕ) → n ≤ 32 → v < 2 ^ n → IsTakenUp v
of_below zero v le lt =
    let none : v ≡ 0 = omega (arith, lt) in
    rw none of_zero
of_below (suc n) v le lt =
    elim (cases_lt v (2 ^ n)) [
      | inl small ↦ of_below n v (omega (arith, le)) small
      | inr large ↦
          let r = v - 2 ^ n in
          let double : 2 ^ suc n ≡ 2 ^ n * 2 = pow-suc 2 n in
          let low : r < 2 ^ n = omega (arith, lt, double, large) in
          let whole : bit_xor (2 ^ n) r ≡ v = above n r low ∙ omega (arith, large) in
          rw (sym whole) (both (2 ^ n) r (of_bit n (omega (arith, le))) (of_below n r (omega (arith, le)) low))
    ]

-- each of 32 bits, m words on
pub taken_up : (m v : ℕ) → v < 2 ^ 32 → shifted_by (32 * (m + 300)) v ≡ bit_xor (shifted_by (32 * (m + 155)) v) (bit_xor (shifted_by (32 * (m + 117)) v) (bit_xor (shifted_by (32 * (m + 89)) v) (shifted_by (32 * m) v)))
taken_up m v lt =
    let on : (k : ℕ) → shifted_by (32 * (m + k)) v ≡ shifted_by (32 * k) (shifted_by (32 * m) v) = λ k. let e : 32 * (m + k) ≡ 32 * m + 32 * k = omega arith in ap (λ n. shifted_by n v) e ∙ shifted_by-add (32 * m) (32 * k) v in
    rw (on 300, on 155, on 117, on 89) (later (32 * m) v (of_below 32 v (omega arith) lt))
