-- How many units of 64 bytes are claimed.
use Rattle.std.specs.Prelude.{ℕ, suc, true, false, [], ◌∷◌}
use Rattle.pst_space.specs.Claimed.{Claimed}

unfoldable pub marked : Claimed → ℕ
marked [] = 0
marked (true ∷ rest) = suc (marked rest)
marked (false ∷ rest) = marked rest
