-- Filled flags: in any order, read again, and clear where nothing was filled.
use Rattle.std.proofs.Common.{◌≡◌, ◌≢◌, ℕ, suc, zero, ◌+◌, ◌<◌, ◌≤◌, Bool, true, false, not, ◌&&◌, [], ◌∷◌, length, get_or, set, replicate, refl, ◌∙◌, arith, ◌⊎◌, inl, inr, get_or-set_other, get_or-set_same, length-set}
use Rattle.std.proofs.lemmas.Bool.{cases_lt}
use Rattle.pst_space.specs.Claimed.{Claimed, is_clear, filled}

-- ---- reading what was filled

get_set : (m : Claimed) (i u : ℕ) → get_or m u false ≡ true → get_or (set m i true) u false ≡ true
get_set [] i u e = e
get_set (x ∷ m) zero zero e = refl
get_set (x ∷ m) zero (suc u) e = e
get_set (x ∷ m) (suc i) zero e = e
get_set (x ∷ m) (suc i) (suc u) e = get_set m i u e

pub stays : (m : Claimed) (a n u : ℕ) → get_or m u false ≡ true → get_or (filled m a n) u false ≡ true
stays m a zero u e = e
stays m a (suc n) u e = stays (set m a true) (a + 1) n u (get_set m a u e)

pub filled_in : (m : Claimed) (a n u : ℕ) → a ≤ u → u < a + n → u < length m → get_or (filled m a n) u false ≡ true
filled_in m a zero u le lt in' = absurd (omega arith)
filled_in m a (suc n) u le lt in' =
    elim (cases_lt a u) [
      | inl more ↦ filled_in (set m a true) (a + 1) n u (omega arith) (omega arith) (omega (arith, length-set m a true))
      | inr same ↦
          let e : u ≡ a = omega arith in
          let here : get_or (set m a true) u false ≡ true = rw e (get_or-set_same m a true false (omega arith)) in
          stays (set m a true) (a + 1) n u here
    ]

pub filled_out : (m : Claimed) (a n u : ℕ) → (u < a) ⊎ (a + n ≤ u) → get_or (filled m a n) u false ≡ get_or m u false
filled_out m a zero u h = refl
filled_out m a (suc n) u h =
    let ne : u ≢ a = elim h [ inl lt ↦ λ e. omega arith | inr le ↦ λ e. omega arith ] in
    let rest : (u < a + 1) ⊎ ((a + 1) + n ≤ u) = elim h [ inl lt ↦ inl (omega arith) | inr le ↦ inr (omega arith) ] in
    filled_out (set m a true) (a + 1) n u rest ∙ get_or-set_other m a u true false ne

-- ---- clear, and what is filled elsewhere

and_false : (x y : Bool) → y ≡ false → (x && y) ≡ false
and_false true y e = e
and_false false y e = refl

not_clear : (m : Claimed) (a n u : ℕ) → a ≤ u → u < a + n → get_or m u false ≡ true → is_clear m a n ≡ false
not_clear m a zero u le lt e = absurd (omega arith)
not_clear m a (suc n) u le lt e =
    elim (cases_lt a u) [
      | inl more ↦ and_false (not (get_or m a false)) _ (not_clear m (a + 1) n u (omega arith) (omega arith) e)
      | inr same ↦
          let s : a ≡ u = omega arith in
          let here : get_or m a false ≡ true = rw s e in
          rw here refl
    ]

clear_set : (m : Claimed) (i a n : ℕ) → (i < a) ⊎ (a + n ≤ i) → is_clear (set m i true) a n ≡ is_clear m a n
clear_set m i a zero h = refl
clear_set m i a (suc n) h =
    let ne : a ≢ i = elim h [ inl lt ↦ λ e. omega arith | inr le ↦ λ e. omega arith ] in
    let rest : (i < a + 1) ⊎ ((a + 1) + n ≤ i) = elim h [ inl lt ↦ inl (omega arith) | inr le ↦ inr (omega arith) ] in
    rw (get_or-set_other m i a true false ne, clear_set m i (a + 1) n rest) refl

pub clear_filled : (m : Claimed) (b k a n : ℕ) → (b + k ≤ a) ⊎ (a + n ≤ b) → is_clear (filled m b k) a n ≡ is_clear m a n
clear_filled m b zero a n h = refl
clear_filled m b (suc k) a n h =
    let here : (b < a) ⊎ (a + n ≤ b) = elim h [ inl lt ↦ inl (omega arith) | inr le ↦ inr le ] in
    let rest : ((b + 1) + k ≤ a) ⊎ (a + n ≤ b + 1) = elim h [ inl lt ↦ inl (omega arith) | inr le ↦ inr (omega arith) ] in
    clear_filled (set m b true) (b + 1) k a n rest ∙ clear_set m b a n here

-- all flags from a unit on are clear
pub clear_beyond : (m : Claimed) (a n : ℕ) → ((u : ℕ) → a ≤ u → get_or m u false ≡ false) → is_clear m a n ≡ true
clear_beyond m a zero h = refl
clear_beyond m a (suc n) h = rw (h a (omega arith), clear_beyond m (a + 1) n (λ u le. h u (omega arith))) refl

pub unset : (units i : ℕ) → get_or (replicate units false) i false ≡ false
unset zero i = refl
unset (suc units) zero = refl
unset (suc units) (suc i) = unset units i

pub overlap : (m : Claimed) (b k a n : ℕ) → 0 < k → 0 < n → a < b + k → b < a + n → b + k ≤ length m → is_clear (filled m b k) a n ≡ false
overlap m b k a n some more lt gt in' =
    elim (cases_lt a b) [
      | inl before ↦ not_clear (filled m b k) a n b (omega arith) gt (filled_in m b k b (omega arith) (omega arith) (omega arith))
      | inr after ↦ not_clear (filled m b k) a n a (omega arith) (omega arith) (filled_in m b k a after lt (omega arith))
    ]
