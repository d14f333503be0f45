-- The runs are the runs of the picked units.
use Rattle.std.proofs.Common.{◌≡◌, ℕ, zero, suc, ◌+◌, ◌-◌, ◌*◌, ◌<◌, ◌≤◌, ◌⊎◌, inl, inr, Bool, true, false, List, ◌++◌, refl, sym, ap, ◌∙◌, arith}
use Rattle.std.proofs.lemmas.Bool.{cases_lt, cases_Bool}
use Rattle.pst_bytes.specs.declared.span.Span.{Span}
use Rattle.pst_fault.proofs.GeneralLemmas.{true_false}
use Rattle.pst_amap.specs.Lost.{units_at, run_before, runs_from, IsRun, AreRuns, LiesInSome, RunsLaw}

-- the last so many units before one are picked
abbrev ArePicked : (ℕ → Bool) → ℕ → ℕ → Type 0
ArePicked picked run unit = (u : ℕ) → unit - run ≤ u → u < unit → picked u ≡ true

-- and the one before them is not
abbrev BeginsHere : (ℕ → Bool) → ℕ → Type 0
BeginsHere picked first = (first ≡ 0) ⊎ (picked (first - 1) ≡ false)

one_run : (picked : ℕ → Bool) (total run unit : ℕ) → suc run ≤ unit → unit ≤ total → ArePicked picked (suc run) unit → BeginsHere picked (unit - suc run) → (unit ≡ total) ⊎ (picked unit ≡ false)
    → IsRun picked total (units_at (unit - suc run) (suc run))
one_run picked total run unit le in' all before behind =
    let ends : (unit - suc run) + suc run ≡ unit = omega arith in
    record {
      first = unit - suc run;
      count = suc run;
      is = refl;
      some = omega arith;
      inside = omega arith;
      all = λ u low high. all u low (omega arith);
      before = before;
      behind = rw ends behind;
    }

lies_here : (run unit u : ℕ) → suc run ≤ unit → unit - suc run ≤ u → u < unit → (17408 + 64 * (unit - suc run) ≤ 17408 + 64 * u) × (17408 + 64 * u < (17408 + 64 * (unit - suc run)) + 64 * suc run)
lies_here run unit u le low high = (omega arith, omega arith)

-- what the runs from a unit on are, once the last so many before it were picked
abbrev AreGood : (ℕ → Bool) → ℕ → ℕ → ℕ → ℕ → List Span → Type 0
AreGood picked total from run unit spans = AreRuns picked total from spans × ((u : ℕ) → unit - run ≤ u → u < total → picked u ≡ true → LiesInSome u spans)

last_run : (picked : ℕ → Bool) (total from run unit : ℕ) → run ≤ unit → total ≡ unit → from ≤ 17408 + 64 * (unit - run) → ArePicked picked run unit → BeginsHere picked (unit - run) → AreGood picked total from run unit (run_before unit run)
last_run picked total from zero unit le e low all before = (tt, λ u above below is. absurd (omega arith))
last_run picked total from (suc run) unit le e low all before = (
  (low, one_run picked total run unit le (omega arith) all before (inl (sym e)), tt),
  λ u above below is. inl (lies_here run unit u le above (omega arith)),
)

-- a unit that is not picked ends a run
ended_run : (picked : ℕ → Bool) (total from run unit : ℕ) (rest : List Span) → run ≤ unit → unit < total → from ≤ 17408 + 64 * (unit - run) → ArePicked picked run unit → BeginsHere picked (unit - run) → picked unit ≡ false
    → ((from : ℕ) → from ≤ 17408 + 64 * (unit + 1 - 0) → AreGood picked total from 0 (unit + 1) rest) → AreGood picked total from run unit (run_before unit run ++ rest)
ended_run picked total from zero unit rest le in' low all before not_here good =
    let later = good from (omega arith) in (
      later.0,
      λ u above below is.
          elim (cases_lt unit u) [
            | inl more ↦ later.1 u (omega arith) below is
            | inr here ↦ let e : u ≡ unit = omega arith in absurd (true_false (picked unit) (ap picked (sym e) ∙ is) not_here)
          ],
    )
ended_run picked total from (suc run) unit rest le in' low all before not_here good =
    let later = good ((17408 + 64 * (unit - suc run)) + 64 * suc run) (omega arith) in (
      (low, one_run picked total run unit le (omega arith) all before (inr not_here), later.0),
      λ u above below is.
          elim (cases_lt u unit) [
            | inl less ↦ inl (lies_here run unit u le above less)
            | inr more ↦
                elim (cases_lt unit u) [
                  | inl beyond ↦ inr (later.1 u (omega arith) below is)
                  | inr here ↦ let e : u ≡ unit = omega arith in absurd (true_false (picked unit) (ap picked (sym e) ∙ is) not_here)
                ]
          ],
    )

picked_more : (picked : ℕ → Bool) (run unit : ℕ) → ArePicked picked run unit → picked unit ≡ true → ArePicked picked (suc run) (unit + 1)
picked_more picked run unit all here u low high =
    elim (cases_lt u unit) [
      | inl less ↦ all u (omega arith) less
      | inr more ↦ let e : u ≡ unit = omega arith in ap picked e ∙ here
    ]

all_runs : (picked : ℕ → Bool) (n total from run unit : ℕ) → run ≤ unit → total ≡ unit + n → from ≤ 17408 + 64 * (unit - run) → ArePicked picked run unit → BeginsHere picked (unit - run) → AreGood picked total from run unit (runs_from picked run unit n)
unfolding runs_from
all_runs picked zero total from run unit le e low all before = last_run picked total from run unit le (omega arith) low all before
all_runs picked (suc n) total from run unit le e low all before =
    let same : (unit + 1) - suc run ≡ unit - run = omega arith in
    elim (cases_Bool (picked unit)) [
      | inl here ↦
          let more : AreGood picked total from (suc run) (unit + 1) (runs_from picked (suc run) (unit + 1) n) =
          all_runs picked n total from (suc run) (unit + 1) (omega arith) (omega arith) (omega arith) (picked_more picked run unit all here) (rw same before) in
          rw here (more.0, λ u above below is. more.1 u (omega arith) below is)
      | inr not_here ↦
          rw not_here (
          ended_run picked total from run unit (runs_from picked 0 (unit + 1) n) le (omega arith) low all before not_here (λ next room.
          let begins : BeginsHere picked (unit + 1 - 0) = inr (let k : unit + 1 - 0 - 1 ≡ unit = omega arith in ap picked k ∙ not_here) in
          all_runs picked n total next 0 (unit + 1) (omega arith) (omega arith) room (λ u above below. absurd (omega arith)) begins))
    ]

pub runs_law : RunsLaw
runs_law picked n =
    let good = all_runs picked n n 0 0 0 (omega arith) (omega arith) (omega arith) (λ u above below. absurd (omega arith)) (inl refl) in
    (good.0, λ u below is. good.1 u (omega arith) below is)
