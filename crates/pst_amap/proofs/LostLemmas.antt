-- Runs of units, one unit after another.
use Rattle.std.proofs.Common.{◌≡◌, ℕ, zero, suc, ◌+◌, ◌-◌, ◌<◌, ◌≤◌, Bool, true, false, List, ◌++◌, refl, append_assoc, add-one, arith}
use Rattle.pst_bytes.specs.declared.span.Span.{Span}
use Rattle.pst_amap.specs.Lost.{runs_from, run_before}

pub runs_picked : (picked : ℕ → Bool) (done : List Span) (run unit n : ℕ) → unit < n → picked unit ≡ true → done ++ runs_from picked (run + 1) (unit + 1) (n - (unit + 1)) ≡ done ++ runs_from picked run unit (n - unit)
unfolding runs_from
runs_picked picked done run unit n lt e =
    let k : n - unit ≡ suc (n - (unit + 1)) = omega arith in
    rw (k, e, add-one) refl

pub runs_passed : (picked : ℕ → Bool) (done : List Span) (run unit n : ℕ) → unit < n → picked unit ≡ false → (done ++ run_before unit run) ++ runs_from picked 0 (unit + 1) (n - (unit + 1)) ≡ done ++ runs_from picked run unit (n - unit)
unfolding runs_from
runs_passed picked done run unit n lt e =
    let k : n - unit ≡ suc (n - (unit + 1)) = omega arith in
    rw (k, e) (append_assoc done (run_before unit run) (runs_from picked 0 (unit + 1) (n - (unit + 1))))

pub runs_end : (picked : ℕ → Bool) (done : List Span) (run unit n : ℕ) → unit ≡ n → done ++ run_before n run ≡ done ++ runs_from picked run unit (n - unit)
unfolding runs_from
runs_end picked done run unit n e =
    let k : n - n ≡ 0 = omega arith in
    rw (e, k) refl

-- several units that are not picked, where none before was
none_picked : (picked : ℕ → Bool) (unit n k : ℕ) → k ≤ n → ((i : ℕ) → i < k → picked (unit + i) ≡ false) → runs_from picked 0 (unit + k) (n - k) ≡ runs_from picked 0 unit n
unfolding runs_from
none_picked picked unit n zero le none =
    let at : unit + 0 ≡ unit = omega arith in
    let left : n - 0 ≡ n = omega arith in
    rw (at, left) refl
none_picked picked unit zero (suc k) le none = absurd (omega arith)
none_picked picked unit (suc n) (suc k) le none =
    let at : unit + suc k ≡ (unit + 1) + k = omega arith in
    let here : picked unit ≡ false = (let e : unit + 0 ≡ unit = omega arith in rw e at (none 0 (omega arith))) in
    let left : suc n - suc k ≡ n - k = omega arith in
    let rest : (i : ℕ) → i < k → picked ((unit + 1) + i) ≡ false =
    λ i lt. let e : (unit + 1) + i ≡ unit + suc i = omega arith in rw e (none (suc i) (omega arith)) in
    rw (at, here, left) (none_picked picked (unit + 1) n k (omega arith) rest)

-- several units that are not picked
pub runs_passed_all : (picked : ℕ → Bool) (done : List Span) (run unit n k : ℕ) → 0 < k → unit + k ≤ n → ((i : ℕ) → i < k → picked (unit + i) ≡ false) → (done ++ run_before unit run) ++ runs_from picked 0 (unit + k) (n - (unit + k)) ≡ done ++ runs_from picked run unit (n - unit)
runs_passed_all picked done run unit n zero some le none = absurd (omega arith)
runs_passed_all picked done run unit n (suc k) some le none =
    let rest : (i : ℕ) → i < k → picked ((unit + 1) + i) ≡ false =
    λ i lt. let e : (unit + 1) + i ≡ unit + suc i = omega arith in rw e (none (suc i) (omega arith)) in
    let at : unit + suc k ≡ (unit + 1) + k = omega arith in
    let here : picked unit ≡ false = (let e : unit + 0 ≡ unit = omega arith in rw e at (none 0 (omega arith))) in
    let left : n - ((unit + 1) + k) ≡ (n - (unit + 1)) - k = omega arith in
    rw (at, left, none_picked picked (unit + 1) (n - (unit + 1)) k (omega arith) rest)
    (runs_passed picked done run unit n (omega arith) here)
