-- The line that shows a document.
use Rattle.std.specs.Prelude.{ℕ, List, [], ◌∷◌, ◌++◌}
use Rattle.serde_json.specs.Data.{Data}
use Rattle.serde_json.specs.Written.{compact_text}

-- the compact text, whose object keys stand in the order of their bytes, and a line feed
unfoldable pub data_line : Data → List ℕ
data_line d = compact_text d ++ 10 ∷ []
