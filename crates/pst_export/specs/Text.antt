-- What is left of a text of 16-bit units.
use Rattle.std.specs.Prelude.{ℕ, List, ◌++◌}
use Rattle.pst_value.specs.Units.{bytes_behind}
use Rattle.pst_value_json.specs.pst_text.Text.{utf8_of}
use Rattle.pst_export.specs.declared.text.TextLeft.{TextLeft}

-- the bytes that are left
abbrev pub text_bytes : TextLeft → List ℕ
text_bytes l = l.front.now ++ bytes_behind l.rest

-- what they spell
abbrev pub text_utf8 : TextLeft → List ℕ
text_utf8 l = utf8_of (text_bytes l)
