-- Lost runs: units that are marked and not claimed, in runs as long as can be.
use Rattle.std.specs.Prelude.{◌≡◌, ℕ, zero, suc, ◌+◌, ◌-◌, ◌*◌, ◌<◌, ◌≤◌, ◌⊎◌, ⊤, Bool, true, false, not, ◌&&◌, List, [], ◌∷◌, ◌++◌, length, if◌then◌else◌}
use Rattle.pst_bytes.specs.declared.span.Span.{Span}
use Rattle.pst_header.specs.declared.header.TheConstants.{FIRST_AMAP, UNIT}
use Rattle.pst_space.specs.Claimed.{Claimed, flag_of}
use Rattle.pst_amap.specs.declared.report.BitOrder.{BitOrder}
use Rattle.pst_amap.specs.Marks.{is_marked}

-- a unit is marked, and nothing claims it
unfoldable pub is_lost : BitOrder → List ℕ → Claimed → ℕ → Bool
is_lost order I claimed unit = is_marked order I unit && not (flag_of claimed unit)

-- the span of so many units from one on
abbrev pub units_at : ℕ → ℕ → Span
units_at unit count = record { at = FIRST_AMAP + UNIT * unit; len = UNIT * count }

-- a run of so many units that ends before a unit, if it has any
abbrev pub run_before : ℕ → ℕ → List Span
run_before unit zero = []
run_before unit (suc count) = units_at (unit - suc count) (suc count) ∷ []

-- The runs of the units from one on, n of them, that a test picks, where the last so many before were picked.
unfoldable pub runs_from : (ℕ → Bool) → ℕ → ℕ → ℕ → List Span
runs_from picked run unit zero = run_before unit run
runs_from picked run unit (suc n) =
    if picked unit then runs_from picked (suc run) (unit + 1) n else run_before unit run ++ runs_from picked 0 (unit + 1) n

-- the lost runs of a file
abbrev pub lost_runs : BitOrder → List ℕ → Claimed → List Span
lost_runs order I claimed = runs_from (is_lost order I claimed) 0 0 (length claimed)

-- ---- what runs are

-- The span is a run of n units: each of its units is picked, and neither the one before nor the one behind it is.
pub record IsRun (picked : ℕ → Bool) (n : ℕ) (span : Span) : Type 0 where
  pub first : ℕ
  pub count : ℕ
  pub is : span ≡ units_at first count
  pub some : 0 < count
  pub inside : first + count ≤ n
  pub all : (unit : ℕ) → first ≤ unit → unit < first + count → picked unit ≡ true
  pub before : (first ≡ 0) ⊎ (picked (first - 1) ≡ false)
  pub behind : (first + count ≡ n) ⊎ (picked (first + count) ≡ false)

-- each span is a run, in the order of their places from one on
abbrev pub AreRuns : (ℕ → Bool) → ℕ → ℕ → List Span → Type 0
AreRuns picked n from [] = ⊤
AreRuns picked n from (s ∷ ss) = (from ≤ s.at) × IsRun picked n s × AreRuns picked n (s.at + s.len) ss

-- a unit lies in one of the spans
abbrev pub LiesInSome : ℕ → List Span → Type 0
LiesInSome unit [] = ⊥
LiesInSome unit (s ∷ ss) = ((s.at ≤ FIRST_AMAP + UNIT * unit) × (FIRST_AMAP + UNIT * unit < s.at + s.len)) ⊎ LiesInSome unit ss

-- The runs are the runs of the picked units, in order, and each picked unit lies in one.
abbrev pub RunsLaw : Type 0
RunsLaw = (picked : ℕ → Bool) (n : ℕ) →
    AreRuns picked n 0 (runs_from picked 0 0 n) × ((unit : ℕ) → unit < n → picked unit ≡ true → LiesInSome unit (runs_from picked 0 0 n))
