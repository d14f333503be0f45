-- Bytes of the string stream that lie side by side in the file.
use Rattle.std.specs.Prelude.{◌≡◌, List, ℕ, length, take, drop}
use Rattle.pst_names.specs.declared.stretch.Stretch.{Stretch}

-- they are those of the stream behind so many of its bytes
abbrev pub IsStretchOf : List ℕ → Stretch → Type 0
IsStretchOf bytes s = s.bytes.now ≡ take (length s.bytes.now) (drop s.start bytes)
