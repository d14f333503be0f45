-- The years before a day are known without counting them; the months before a quarter are taken away at once, others one by one.
use Rattle.std.proofs.Common.{◌≡◌, ◌+◌, ◌-◌, ◌*◌, ◌≤◌, ◌<◌, ◌/◌, ℕ, zero, suc, Bool, true, false, refl, sym, ap, ◌∙◌, arith}
use Rattle.std.proofs.lemmas.Bool.Decides.{nat_tests}
use Rattle.std.specs.Prelude.{nat_lt, if◌then◌else◌}
use Rattle.pst_time.specs.Calendar.{is_leap, days_in_year, days_in_month, Part, part, year_from, month_from}

-- ---- whole years

some_days : (y : ℕ) → (365 ≤ days_in_year y) × (days_in_year y ≤ 366)
some_days y = by_leap (is_leap y)
  where
    by_leap : (b : Bool) → (365 ≤ (if b then 366 else 365)) × ((if b then 366 else 365) ≤ 366)
    by_leap true = (omega arith, omega arith)
    by_leap false = (omega arith, omega arith)

-- how many years may be taken away doesn't matter, where they are no fewer than the days
years_same : (a b y n : ℕ) → n ≤ a → n ≤ b → year_from a y n ≡ year_from b y n
unfolding year_from
years_same zero zero y n p q = refl
years_same zero (suc b) y n p q = let here : nat_lt n (days_in_year y) ≡ true = grind (arith, nat_tests, (some_days y).0) in rw here refl
years_same (suc a) zero y n p q = let here : nat_lt n (days_in_year y) ≡ true = grind (arith, nat_tests, (some_days y).0) in rw here refl
years_same (suc a) (suc b) y n p q =
    ap (λ x. if nat_lt n (days_in_year y) then part y n else x)
    (years_same a b (y + 1) (n - days_in_year y) (omega (arith, (some_days y).0)) (omega (arith, (some_days y).0)))

-- the day lies in the year
year_here : (y n : ℕ) → n < days_in_year y → year_from n y n ≡ part y n
unfolding year_from
year_here y zero lt = refl
year_here y (suc n) lt = let here : nat_lt (suc n) (days_in_year y) ≡ true = grind (arith, nat_tests, lt) in rw here refl

-- the days of so many years
abbrev days_of : ℕ → ℕ → ℕ
days_of zero y = 0
days_of (suc k) y = days_in_year y + days_of k (y + 1)

-- the years are over
pass : (k more y n : ℕ) → year_from (k + more) y (days_of k y + n) ≡ year_from more (y + k) n
unfolding year_from
pass zero more y n =
    let same : (x : ℕ) → 0 + x ≡ x = λ x. omega arith in
    let here : y + 0 ≡ y = omega arith in
    rw (same more, same n, here) refl
pass (suc k) more y n =
    let fuel : suc k + more ≡ suc (k + more) = omega arith in
    let over : nat_lt (days_in_year y + days_of k (y + 1) + n) (days_in_year y) ≡ false = grind (arith, nat_tests) in
    let left : days_in_year y + days_of k (y + 1) + n - days_in_year y ≡ days_of k (y + 1) + n = omega arith in
    let behind : y + 1 + k ≡ y + suc k = omega arith in
    rw (fuel, over, left) (pass k more (y + 1) n ∙ ap (λ x. year_from more x n) behind)

-- ---- the days of the years from 1601 on, without counting them

-- the last of them
days_last : (k y : ℕ) → days_of (suc k) y ≡ days_of k y + days_in_year (y + k)
days_last zero y = let here : y + 0 ≡ y = omega arith in rw here (omega arith)
days_last (suc k) y = let behind : y + 1 + k ≡ y + suc k = omega arith in
    ap (λ d. days_in_year y + d) (days_last k (y + 1) ∙ ap (λ x. days_of k (y + 1) + days_in_year x) behind) ∙ omega arith

-- a leap day every four years, but of those that end a century only every fourth
year_days : (k : ℕ) → days_in_year (1601 + k) + k / 4 + k / 400 + (k + 1) / 100 ≡ 365 + (k + 1) / 4 + (k + 1) / 400 + k / 100
year_days k = grind (arith, nat_tests)

days_from : (k : ℕ) → days_of k 1601 + k / 100 ≡ 365 * k + k / 4 + k / 400
days_from zero = refl
days_from (suc k) = omega (arith, days_last k 1601, year_days k, days_from k)

-- so many days lie before the year that is k behind 1601, and the day lies in it
year_is : (day k rest : ℕ) → 365 * k + k / 4 + k / 400 + rest ≡ day + k / 100 → rest < days_in_year (1601 + k) → part (1601 + k) rest ≡ year_from day 1601 day
year_is day k rest is lt =
    let whole : day ≡ days_of k 1601 + rest = omega (arith, days_from k) in
    sym
    (years_same day (k + day) 1601 day (omega arith) (omega arith)
    ∙ ap (λ d. year_from (k + day) 1601 d) whole
    ∙ pass k day 1601 rest
    ∙ years_same day rest (1601 + k) rest (omega arith) (omega arith)
    ∙ year_here (1601 + k) rest lt)

-- the year behind q cycles, c centuries, f fours of years, and l years
pub year_at : (day q c f l rest : ℕ) → c ≤ 3 → l ≤ 3 → day ≡ 146097 * q + 36524 * c + 1461 * f + 365 * l + rest
    → 1461 * f + 365 * l + rest ≤ 36524 → (c < 3 → 1461 * f + 365 * l + rest < 36524) → 365 * l + rest < 1461 → (l < 3 → rest < 365)
    → part (1601 + 400 * q + 100 * c + 4 * f + l) rest ≡ year_from day 1601 day
year_at day q c f l rest few last is in_cycle in_century in_four in_year =
    let k = 400 * q + 100 * c + 4 * f + l in
    let number : 1601 + 400 * q + 100 * c + 4 * f + l ≡ 1601 + k = omega arith in
    ap (λ y. part y rest) number ∙ year_is day k rest (omega arith) (grind (arith, year_days k))

-- ---- a month more

-- the month is over
pub month_next : (y m n : ℕ) (whole : Part) → m ≤ 12 → days_in_month y m ≤ n → month_from (13 - m) y m n ≡ whole
    → month_from (13 - (m + 1)) y (m + 1) (n - days_in_month y m) ≡ whole
unfolding month_from
month_next y m n whole low le so_far =
    let one : 13 - m ≡ suc (13 - (m + 1)) = omega arith in
    let over : nat_lt n (days_in_month y m) ≡ false = grind (arith, nat_tests, le) in
    (let step = so_far in (rw (one, over) at step))

-- the day lies in the month, or that is behind the last
pub month_here : (y m n : ℕ) (whole : Part) → m ≤ 12 → n < days_in_month y m → month_from (13 - m) y m n ≡ whole → part m n ≡ whole
unfolding month_from
month_here y m n whole low lt so_far =
    let one : 13 - m ≡ suc (13 - (m + 1)) = omega arith in
    let here : nat_lt n (days_in_month y m) ≡ true = grind (arith, nat_tests, lt) in
    (let step = so_far in (rw (one, here) at step))

pub month_last : (y m n : ℕ) (whole : Part) → m ≡ 13 → month_from (13 - m) y m n ≡ whole → part m n ≡ whole
unfolding month_from
month_last y m n whole is so_far = let none : 13 - m ≡ 0 = omega arith in (let step = so_far in (rw none at step))

-- ---- the months before a quarter

-- the days of so many months
abbrev months_days : ℕ → ℕ → ℕ → ℕ
months_days zero y m = 0
months_days (suc k) y m = days_in_month y m + months_days k y (m + 1)

-- they are over
months_pass : (k more y m n : ℕ) → month_from (k + more) y m (months_days k y m + n) ≡ month_from more y (m + k) n
unfolding month_from
months_pass zero more y m n =
    let same : (x : ℕ) → 0 + x ≡ x = λ x. omega arith in
    let here : m + 0 ≡ m = omega arith in
    rw (same more, same n, here) refl
months_pass (suc k) more y m n =
    let fuel : suc k + more ≡ suc (k + more) = omega arith in
    let over : nat_lt (days_in_month y m + months_days k y (m + 1) + n) (days_in_month y m) ≡ false = grind (arith, nat_tests) in
    let left : days_in_month y m + months_days k y (m + 1) + n - days_in_month y m ≡ months_days k y (m + 1) + n = omega arith in
    let behind : m + 1 + k ≡ m + suc k = omega arith in
    rw (fuel, over, left) (months_pass k more y (m + 1) n ∙ ap (λ x. month_from more y x n) behind)

abbrev leap_day : Bool → ℕ
leap_day b = if b then 1 else 0

february : (b : Bool) → (if b then 29 else 28) ≡ 28 + leap_day b
february true = refl
february false = refl

-- so many months of the year are over, of which the second may have a leap day
months_over : (k more y n leap days : ℕ) → k + more ≡ 12 → months_days k y 1 ≡ days + leap_day (is_leap y) → leap ≡ leap_day (is_leap y) → days + leap ≤ n
    → month_from more y (1 + k) (n - days - leap) ≡ month_from 12 y 1 n
months_over k more y n leap days all are is le =
    let rest = n - days - leap in
    let whole : months_days k y 1 + rest ≡ n = omega arith in
    sym (months_pass k more y 1 rest) ∙ ap (λ m. month_from m y 1 (months_days k y 1 + rest)) all ∙ ap (λ d. month_from 12 y 1 d) whole

pub second_quarter : (y n leap : ℕ) → leap ≡ leap_day (is_leap y) → 90 + leap ≤ n → month_from 9 y 4 (n - 90 - leap) ≡ month_from 12 y 1 n
second_quarter y n leap is le = months_over 3 9 y n leap 90 refl (omega (arith, february (is_leap y))) is le

pub third_quarter : (y n leap : ℕ) → leap ≡ leap_day (is_leap y) → 181 + leap ≤ n → month_from 6 y 7 (n - 181 - leap) ≡ month_from 12 y 1 n
third_quarter y n leap is le = months_over 6 6 y n leap 181 refl (omega (arith, february (is_leap y))) is le

pub last_quarter : (y n leap : ℕ) → leap ≡ leap_day (is_leap y) → 273 + leap ≤ n → month_from 3 y 10 (n - 273 - leap) ≡ month_from 12 y 1 n
last_quarter y n leap is le = months_over 9 3 y n leap 273 refl (omega (arith, february (is_leap y))) is le
