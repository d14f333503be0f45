-- The text of a GUID stands for itself between quotes.
use Rattle.std.proofs.Common.{◌≡◌, ℕ, zero, suc, ◌%◌, ◌/◌, ◌<◌, Bool, true, false, List, [], ◌∷◌, refl, ap, ◌∙◌, arith}
use Rattle.std.specs.Prelude.{◌&&◌, ◌==◌, slice_index, if◌then◌else◌}
use Rattle.std.proofs.lemmas.Bool.Decides.{nat_tests}
use Rattle.json.specs.Run.{is_plain}
use Rattle.uuid.specs.Text.{by_index, hex_digit, lower, nibble, digit_place, is_hyphen_place, hyphen, hyphenated_text}
use Rattle.pst_text.specs.Quoted.{all_plain}
use Rattle.pst_text.proofs.EscapeLemmas.{plain_append}

places_are_plain : (n : ℕ) (f : ℕ → ℕ) → ((k : ℕ) → is_plain (f k) ≡ true) → all_plain (by_index n f) ≡ true
unfolding by_index
places_are_plain zero f each = refl
places_are_plain (suc n) f each = plain_append (by_index n f) (f n ∷ []) (places_are_plain n f each) (ap (λ b. b && true) (each n))

digit_is_plain : (d : ℕ) → d < 16 → is_plain (hex_digit lower d) ≡ true
digit_is_plain d low = grind (arith, nat_tests)

nibble_is_low : (xs : List ℕ) (k : ℕ) → nibble xs k < 16
nibble_is_low xs k = by_place (k % 2 == 0)
  where
    by_place : (b : Bool) → (if b then slice_index xs (k / 2) / 16 % 16 else slice_index xs (k / 2) % 16) < 16
    by_place true = omega arith
    by_place false = omega arith

pub guid_is_plain : (xs shown : List ℕ) → shown ≡ hyphenated_text lower xs → all_plain shown ≡ true
guid_is_plain xs shown is = ap all_plain is ∙ places_are_plain 36 _ (λ k. by_place k (is_hyphen_place k))
  where
    by_place : (k : ℕ) (b : Bool) → is_plain (if b then hyphen else hex_digit lower (nibble xs (digit_place k))) ≡ true
    by_place k true = refl
    by_place k false = digit_is_plain (nibble xs (digit_place k)) (nibble_is_low xs (digit_place k))
