-- Runs of entries that are known to keep a rule.
use Rattle.std.proofs.Common.{◌≡◌, ℕ, ◌+◌, ◌-◌, ◌*◌, ◌/◌, ◌≤◌, Bool, true, false, List, length, take, drop, drop-drop, take-take, Some, None, refl, sym, ap, ◌∙◌, arith}
use Rattle.std.specs.Prelude.{cond}
use Rattle.std.specs.Ordering.{nat_cmp, eq_by_cmp}
use Rattle.std.specs.BTreeMap.{get, IsEmpty, IsUnchanged}
use Rattle.std.proofs.lemmas.Map.Lookups.{exact_unsigned}
use Rattle.std.proofs.lemmas.Map.Views.{tells_apart}
use Rattle.std.proofs.lemmas.List.{drop-take}
use Rattle.pst_bytes.specs.Image.{bytes_at}
use Rattle.pst_names.specs.declared.runs.Runs.{Runs}
use Rattle.pst_names.specs.Entry.{name_entry_bytes}
use Rattle.pst_names.specs.Known.{run_at, AreAll, IsGoodRun, AreRunsTrue}
use Rattle.pst_names.proofs.NumLemmas.{range_is}

-- ---- an entry, as bytes of the file

pub cell_is : (I front : List ℕ) (at j : ℕ) → front ≡ bytes_at I (record { at = at; len = length front }) → 8 * j + 8 ≤ length front → name_entry_bytes front j ≡ bytes_at I (record { at = at + 8 * j; len = 8 })
cell_is I front at j is le =
    let n : length front ≡ 8 * j + (length front - 8 * j) = omega (arith, le) in
    let few : 8 ≤ length front - 8 * j = omega (arith, le) in
    let front_is : front ≡ take (8 * j + (length front - 8 * j)) (drop at I) = is ∙ ap (λ k. take k (drop at I)) n in
    range_is front (8 * j) 8
    ∙ ap (λ bs. take 8 (drop (8 * j) bs)) front_is
    ∙ ap (take 8) (drop-take (8 * j) (length front - 8 * j) (drop at I))
    ∙ take-take 8 (length front - 8 * j) (drop (8 * j) (drop at I)) few
    ∙ ap (take 8) (drop-drop (8 * j) at I)

pub run_of : (good : List ℕ → Bool) (I front : List ℕ) (at count : ℕ) → front ≡ bytes_at I (record { at = at; len = length front }) → count ≡ length front / 8 → AreAll good front → IsGoodRun good I at count
run_of good I front at count is whole all =
    λ j lt. let le : 8 * j + 8 ≤ length front = omega (arith, lt, whole) in rw (← cell_is I front at j is le) (all j le)

pub known_run : (good : List ℕ → Bool) (I front : List ℕ) (at count : ℕ) (r : Runs) → front ≡ bytes_at I (record { at = at; len = length front }) → count ≡ length front / 8 → AreRunsTrue good I r
    → (n : ℕ) × (run_at r at ≡ Some n) × (count ≤ n) → AreAll good front
known_run good I front at count r is whole are w =
    λ j le. rw (cell_is I front at j is le) (are.holds at w.0 w.1 j (omega (arith, le, whole, w.2)))

-- ---- what is known

pub nothing_true : (good : List ℕ → Bool) (I : List ℕ) (r : Runs) → IsEmpty r.runs → AreRunsTrue good I r
unfolding run_at
nothing_true good I r empty = record { holds = λ at n known. absurd (let bad : None ≡ Some n = (rw empty at known) in cc) }

-- nothing is put in
pub kept_true : (good : List ℕ → Bool) (I : List ℕ) (old new : Runs) → IsUnchanged old.runs new.runs → AreRunsTrue good I old → AreRunsTrue good I new
unfolding run_at
kept_true good I old new same are = record { holds = λ at n known. are.holds at n (rw same at known) }

-- a run is put in
pub put_true : (good : List ℕ → Bool) (I : List ℕ) (old new : Runs) (at count : ℕ) → ((key : ℕ) → get nat_cmp new.runs key ≡ cond (eq_by_cmp nat_cmp at key) (Some count) (get nat_cmp old.runs key)) → IsGoodRun good I at count
    → AreRunsTrue good I old → AreRunsTrue good I new
unfolding run_at
put_true good I old new at count put is are = record { holds = λ q n known. by_test q n (eq_by_cmp nat_cmp at q) refl (sym (put q) ∙ known) }
  where
    by_test : (q n : ℕ) (v : Bool) → eq_by_cmp nat_cmp at q ≡ v → cond v (Some count) (get nat_cmp old.runs q) ≡ Some n → IsGoodRun good I q n
    by_test q n true here known =
        let same : count ≡ n = cc in
        let place : at ≡ q = tells_apart exact_unsigned at q here in
        rw (← same, ← place) is
    by_test q n false here known = are.holds q n known
