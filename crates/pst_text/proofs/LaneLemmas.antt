-- Digits by lanes: sixteen bytes side by side.
use Rattle.std.proofs.Common.{◌≡◌, ℕ, zero, suc, ◌+◌, ◌*◌, ◌/◌, ◌%◌, ◌^◌, ◌<◌, List, [], ◌∷◌, ◌++◌, map, length, get_or, take, drop, replicate, bit_and, refl, sym, ap, ◌∙◌, arith, w8, Fits, slice_index}
use Rattle.std.proofs.lemmas.List.{get_or-map, length-map, ext_get_or, take_all}
use Rattle.std.proofs.lemmas.Nat.{and_le_r, and_mask}
use Rattle.std.proofs.lemmas.Simd.{Each1-all, Each1-weaker, Each1-zip2, Each1-get_or, Each2-splat, below_from_Fits, length-zip2, zip2_splat, swz_l, SwzOk, SwzOk-from_below, length-swz_l, get_or-swz_l_below}
use lib.Lanes.{zip2, Each1}
use Rattle.hex.specs.Hex.{lower_digits, encode_with}
use Rattle.json.specs.Print.{escape}
use Rattle.pst_text.proofs.DigitLemmas.{lower_escaped}

-- sixteen bytes
abbrev pub AreSixteen : List ℕ → Type 0
AreSixteen v = (length v ≡ 16) × Each1 (Fits w8) v

abbrev down : ℕ → ℕ → ℕ
down a b = a / 2 ^ b

-- ---- the places in the table

pub high_ok : (v : List ℕ) → AreSixteen v → SwzOk w8 16 16 0 (zip2 down v (replicate 16 4))
high_ok v fits =
    let small = Each1-weaker (λ a. a < 256) (λ a. a / 16 < 16) (λ a h. omega (arith, h)) v (below_from_Fits w8 v fits.1) in
    SwzOk-from_below w8 16 1 16 0 (zip2 down v (replicate 16 4)) refl (omega (arith, length-zip2 down v (replicate 16 4) fits.0, fits.0))
    (Each1-zip2 down (λ j. j < 16) v (replicate 16 4) (Each2-splat (λ a b. down a b < 16) v 16 4 small))

pub low_ok : (v : List ℕ) → AreSixteen v → SwzOk w8 16 16 0 (zip2 bit_and v (replicate 16 15))
low_ok v fits =
    let small = Each1-all (λ a. bit_and a 15 < 16) (λ a. omega (arith, and_le_r a 15)) v in
    SwzOk-from_below w8 16 1 16 0 (zip2 bit_and v (replicate 16 15)) refl (omega (arith, length-zip2 bit_and v (replicate 16 15) fits.0, fits.0))
    (Each1-zip2 bit_and (λ j. j < 16) v (replicate 16 15) (Each2-splat (λ a b. bit_and a b < 16) v 16 15 small))

-- ---- what stands there

looked_up : (t : List ℕ) (g : ℕ → ℕ) (v js : List ℕ) → AreSixteen v → js ≡ map g v → ((x : ℕ) → x < 256 → g x < 16) → swz_l w8 16 t 0 js ≡ map (λ x. slice_index t (g x)) v
looked_up t g v js fits e small =
    let long : length js ≡ 16 = ap length e ∙ length-map v g ∙ fits.0 in
    ext_get_or 0 _ _ (length-swz_l w8 16 t 0 js ∙ long ∙ sym (length-map v (λ x. slice_index t (g x)) ∙ fits.0)) (λ i h.
    let lt : i < 16 = omega (arith, length-swz_l w8 16 t 0 js, long, h) in
    let within : i < length v = omega (arith, fits.0, lt) in
    let is : get_or js i 0 ≡ g (get_or v i 0) = ap (λ l. get_or l i 0) e ∙ get_or-map g v i 0 0 within in
    let fit : get_or v i 0 < 256 = Each1-get_or (λ a. a < 256) v i 0 within (below_from_Fits w8 v fits.1) in
    let below : get_or js i 0 < 16 = omega (arith, is, small (get_or v i 0) fit) in
    let place : 16 * ((0 + i) / 16) + get_or js i 0 ≡ g (get_or v i 0) = omega (arith, lt, is) in
    get_or-swz_l_below w8 16 t 0 js i (omega (arith, long, lt)) below
    ∙ ap (λ k. slice_index t k) place ∙ sym (get_or-map (λ x. slice_index t (g x)) v i 0 0 within))

pub firsts : (v : List ℕ) → AreSixteen v → swz_l w8 16 lower_digits 0 (zip2 down v (replicate 16 4)) ≡ map (λ b. slice_index lower_digits (b / 16)) v
firsts v fits = looked_up lower_digits (λ x. x / 16) v (zip2 down v (replicate 16 4)) fits (zip2_splat down v 16 4 fits.0) (λ x h. omega (arith, h))

map_same : (f g : ℕ → ℕ) → ((x : ℕ) → f x ≡ g x) → (xs : List ℕ) → map f xs ≡ map g xs
map_same f g same [] = refl
map_same f g same (x ∷ xs) = ap (λ y. y ∷ map f xs) (same x) ∙ ap (λ l. g x ∷ l) (map_same f g same xs)

pub seconds : (v : List ℕ) → AreSixteen v → swz_l w8 16 lower_digits 0 (zip2 bit_and v (replicate 16 15)) ≡ map (λ b. slice_index lower_digits (b % 16)) v
seconds v fits =
    looked_up lower_digits (λ x. x % 16) v (zip2 bit_and v (replicate 16 15)) fits
    (zip2_splat bit_and v 16 15 fits.0 ∙ map_same (λ x. bit_and x 15) (λ x. x % 16) (λ x. and_mask x 4) v) (λ x h. omega arith)

-- ---- both by turns

-- the elements of a list, one by one
spread : ℕ → List ℕ → List ℕ
spread zero l = []
spread (suc n) l = get_or l 0 0 ∷ spread n (drop 1 l)

spread_is : (n : ℕ) (l : List ℕ) → length l ≡ n → spread n l ≡ l
unfolding spread
spread_is zero [] h = refl
spread_is zero (x ∷ l) h = absurd (omega (arith, h))
spread_is (suc n) [] h = absurd (omega (arith, h))
spread_is (suc n) (x ∷ l) h = ap (λ r. x ∷ r) (spread_is n l (omega (arith, h)))

-- those of a list of 32, of both halves by turns
abbrev pub woven : List ℕ → List ℕ
woven l =
    slice_index l 0 ∷ slice_index l 16 ∷ slice_index l 1 ∷ slice_index l 17 ∷ slice_index l 2 ∷ slice_index l 18 ∷ slice_index l 3 ∷ slice_index l 19 ∷
    slice_index l 4 ∷ slice_index l 20 ∷ slice_index l 5 ∷ slice_index l 21 ∷ slice_index l 6 ∷ slice_index l 22 ∷ slice_index l 7 ∷ slice_index l 23 ∷
    slice_index l 8 ∷ slice_index l 24 ∷ slice_index l 9 ∷ slice_index l 25 ∷ slice_index l 10 ∷ slice_index l 26 ∷ slice_index l 11 ∷ slice_index l 27 ∷
    slice_index l 12 ∷ slice_index l 28 ∷ slice_index l 13 ∷ slice_index l 29 ∷ slice_index l 14 ∷ slice_index l 30 ∷ slice_index l 15 ∷ slice_index l 31 ∷ []

abbrev both : List ℕ → List ℕ
both v = map (λ b. slice_index lower_digits (b / 16)) v ++ map (λ b. slice_index lower_digits (b % 16)) v

spread_shown : (v : List ℕ) → woven (both (spread 16 v)) ≡ encode_with lower_digits (spread 16 v)
unfolding spread encode_with
spread_shown v = refl

pub all_shown : (bytes high low : List ℕ) → ((k : ℕ) → slice_index bytes k < 256) → length bytes ≡ 16
    → high ≡ map (λ b. slice_index lower_digits (b / 16)) (take 16 bytes) → low ≡ map (λ b. slice_index lower_digits (b % 16)) (take 16 bytes)
    → woven (high ++ low) ≡ escape (encode_with lower_digits bytes)
all_shown bytes high low small long first second =
    let whole : take 16 bytes ≡ bytes = take_all 16 bytes (omega (arith, long)) in
    ap (λ l. woven (l ++ low)) (first ∙ ap (λ l. map (λ b. slice_index lower_digits (b / 16)) l) whole)
    ∙ ap (λ l. woven (map (λ b. slice_index lower_digits (b / 16)) bytes ++ l)) (second ∙ ap (λ l. map (λ b. slice_index lower_digits (b % 16)) l) whole)
    ∙ ap (λ l. woven (both l)) (sym (spread_is 16 bytes long)) ∙ spread_shown bytes ∙ ap (encode_with lower_digits) (spread_is 16 bytes long)
    ∙ sym (lower_escaped bytes small)
