-- What stands between quotes as it is, and keys.
use Rattle.std.specs.Prelude.{ℕ, Bool, List, [], ◌∷◌, ◌++◌}
use Rattle.std.specs.List.{list_all}
use Rattle.json.specs.Run.{is_plain}
use Rattle.serde_json.specs.Data.{string}
use Rattle.serde_json.specs.Written.{compact_text, comma_if}

-- each byte stands for itself between quotes
abbrev pub all_plain : List ℕ → Bool
all_plain bytes = list_all is_plain bytes

-- a key, behind a comma if others stand before it
abbrev pub key_text : Bool → List ℕ → List ℕ
key_text later key = (comma_if later ++ compact_text (string key)) ++ 58 ∷ []
