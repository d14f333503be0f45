-- What a text keeps where memory is refused while more is put behind it.
use Rattle.std.specs.Prelude.{◌≡◌, ℕ, List, take, length}

-- the text begins with what it had
abbrev pub BeginsWith : List ℕ → List ℕ → Type 0
BeginsWith text front = take (length front) text ≡ front
