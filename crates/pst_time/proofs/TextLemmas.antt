-- The text of a time is in ASCII, and so in UTF-8.
use Rattle.std.proofs.Common.{◌≡◌, ℕ, zero, suc, ◌+◌, ◌%◌, ◌/◌, ◌<◌, Bool, true, false, List, [], ◌∷◌, ◌++◌, Some, None, sym, subst, arith}
use Rattle.std.specs.Prelude.{IsAscii, IfSome, codes, nat_le, if◌then◌else◌}
use Rattle.std.specs.Str.{IsUtf8}
use Rattle.std.proofs.lemmas.Str.{IsAscii-append, IsUtf8-from_ascii}
use Rattle.std.proofs.lemmas.Str.Ascii.{IsAscii-nil, IsAscii-push}
use Rattle.pst_time.specs.Calendar.{Part, month_from}
use Rattle.pst_time.specs.Time.{second_steps, day_seconds, year_of, digits, date_text, clock_text, moment_text, time_text}

digits_are_ascii : (k n : ℕ) → IsAscii (digits k n)
unfolding digits
digits_are_ascii zero n = IsAscii-nil
digits_are_ascii (suc k) n = IsAscii-push (digits k (n / 10)) (48 + n % 10) (digits_are_ascii k (n / 10)) (omega arith)

-- behind a text: a mark, and digits
and_both : (text : List ℕ) (mark k n : ℕ) → IsAscii text → mark < 128 → IsAscii ((text ++ mark ∷ []) ++ digits k n)
and_both text mark k n h low = IsAscii-append (text ++ mark ∷ []) (digits k n) (IsAscii-push text mark h low) (digits_are_ascii k n)

date_is_ascii : (year : Part) → IsAscii (date_text year)
unfolding date_text
date_is_ascii year =
    let month : Part = month_from 12 year.number 1 year.rest in
    and_both _ 45 2 (month.rest + 1) (and_both _ 45 2 month.number (digits_are_ascii 4 year.number) (omega arith)) (omega arith)

clock_is_ascii : (second steps : ℕ) → IsAscii (clock_text second steps)
unfolding clock_text
clock_is_ascii second steps =
    and_both _ 46 7 steps
    (and_both _ 58 2 (second % 60) (and_both _ 58 2 (second / 60 % 60) (digits_are_ascii 2 (second / 3600)) (omega arith)) (omega arith)) (omega arith)

moment_is_ascii : (year : Part) (time : ℕ) → IsAscii (moment_text year time)
moment_is_ascii year time =
    let clock = clock_text (time / second_steps % day_seconds) (time % second_steps) in
    let before = date_text year ++ codes "T" in
    IsAscii-push (before ++ clock) 90
    (IsAscii-append before clock (IsAscii-push (date_text year) 84 (date_is_ascii year) (omega arith)) (clock_is_ascii _ _)) (omega arith)

pub text_is_utf8 : (time : ℕ) (bytes : List ℕ) → Some bytes ≡ time_text time → IsUtf8 bytes
unfolding time_text
text_is_utf8 time bytes is = subst (λ o. IfSome o IsUtf8) (sym is) (by_year (nat_le (year_of time).number 9999))
  where
    by_year : (b : Bool) → IfSome (if b then Some (moment_text (year_of time) time) else None) IsUtf8
    by_year true = IsUtf8-from_ascii (moment_text (year_of time) time) (moment_is_ascii (year_of time) time)
    by_year false = tt
