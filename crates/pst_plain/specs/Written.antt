-- The bytes of a file after some were written in their place.
use Rattle.std.specs.Prelude.{ℕ, ◌+◌, List, ◌++◌, length, take, drop}

unfoldable pub written : List ℕ → ℕ → List ℕ → List ℕ
written I at bytes = take at I ++ (bytes ++ drop (at + length bytes) I)
