-- The text of a time stands for itself between quotes.
use Rattle.std.proofs.Common.{◌≡◌, ℕ, zero, suc, ◌+◌, ◌%◌, ◌/◌, ◌<◌, Bool, true, false, List, [], ◌∷◌, ◌++◌, Some, None, refl, sym, ap, subst, arith}
use Rattle.std.specs.Prelude.{IfSome, codes, nat_le, ◌&&◌, if◌then◌else◌}
use Rattle.std.proofs.lemmas.Bool.Decides.{nat_tests}
use Rattle.json.specs.Run.{is_plain}
use Rattle.pst_time.specs.Calendar.{Part, month_from}
use Rattle.pst_time.specs.Time.{second_steps, day_seconds, year_of, digits, date_text, clock_text, moment_text, time_text}
use Rattle.pst_text.specs.Quoted.{all_plain}
use Rattle.pst_text.proofs.EscapeLemmas.{plain_append}

record Plain (text : List ℕ) : Type 0 where
  is : all_plain text ≡ true

digit_is_plain : (d : ℕ) → d < 10 → is_plain (48 + d) ≡ true
digit_is_plain d low = grind (arith, nat_tests)

digits_are_plain : (k n : ℕ) → all_plain (digits k n) ≡ true
unfolding digits
digits_are_plain zero n = refl
digits_are_plain (suc k) n = plain_append (digits k (n / 10)) _ (digits_are_plain k (n / 10)) (ap (λ b. b && true) (digit_is_plain (n % 10) (omega arith)))

-- digits alone, and behind a text a mark, and digits
number : (k n : ℕ) → Plain (digits k n)
number k n = record { is = digits_are_plain k n }

and_both : {text : List ℕ} (mark k n : ℕ) → Plain text → is_plain mark ≡ true → Plain ((text ++ mark ∷ []) ++ digits k n)
and_both {text = text} mark k n p low =
    record { is = plain_append (text ++ mark ∷ []) (digits k n) (plain_append text (mark ∷ []) (Plain.is p) (ap (λ b. b && true) low)) (digits_are_plain k n) }

date_is_plain : (year : Part) → Plain (date_text year)
unfolding date_text
date_is_plain year =
    let month : Part = month_from 12 year.number 1 year.rest in
    and_both 45 2 (month.rest + 1) (and_both 45 2 month.number (number 4 year.number) refl) refl

clock_is_plain : (second steps : ℕ) → Plain (clock_text second steps)
unfolding clock_text
clock_is_plain second steps =
    and_both 46 7 steps (and_both 58 2 (second % 60) (and_both 58 2 (second / 60 % 60) (number 2 (second / 3600)) refl) refl) refl

moment_is_plain : (year : Part) (time : ℕ) → all_plain (moment_text year time) ≡ true
moment_is_plain year time =
    let second = time / second_steps % day_seconds in
    let steps = time % second_steps in
    let date = date_text year in
    let clock = clock_text second steps in
    plain_append ((date ++ codes "T") ++ clock) (codes "Z")
    (plain_append (date ++ codes "T") clock (plain_append date (codes "T") (Plain.is (date_is_plain year)) refl) (Plain.is (clock_is_plain second steps))) refl

pub time_is_plain : (time : ℕ) (bytes : List ℕ) → Some bytes ≡ time_text time → all_plain bytes ≡ true
unfolding time_text
time_is_plain time bytes is = subst (λ o. IfSome o (λ b. all_plain b ≡ true)) (sym is) (by_year (nat_le (year_of time).number 9999))
  where
    by_year : (b : Bool) → IfSome (if b then Some (moment_text (year_of time) time) else None) (λ x. all_plain x ≡ true)
    by_year true = moment_is_plain (year_of time) time
    by_year false = tt
