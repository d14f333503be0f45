-- One unit after another: what the loops over units keep.
use Rattle.std.proofs.Common.{◌≡◌, ℕ, suc, zero, ◌+◌, ◌-◌, ◌<◌, ◌≤◌, true, false, length, get_or, set, refl, ap, ◌∙◌, arith, length-set}
use Rattle.pst_space.specs.Claimed.{Claimed, is_clear, filled}

pub length_filled : (marks : Claimed) (unit n : ℕ) → length (filled marks unit n) ≡ length marks
length_filled marks unit zero = refl
length_filled marks unit (suc n) = length_filled (set marks unit true) (unit + 1) n ∙ length-set marks unit true
