-- Bytes as they are shown: in hexadecimal, as the text that they spell, or as a GUID.
use Rattle.std.specs.Prelude.{ℕ, List, encode_utf8_all}
use Rattle.std.specs.Char.Utf16.{utf16_lossy_chars}
use Rattle.serde_json.specs.Data.{Data, string}
use Rattle.hex.specs.Hex.{encode_lower}
use Rattle.uuid.specs.Text.{lower, hyphenated_text}
use Rattle.pst_value.specs.Units.{units_of}

-- lower-case hexadecimal
abbrev pub hex_data : List ℕ → Data
hex_data bytes = string (encode_lower bytes)

-- the text that the 16-bit units spell, in UTF-8; a surrogate without a partner is U+FFFD
abbrev pub utf8_of : List ℕ → List ℕ
utf8_of bytes = encode_utf8_all (utf16_lossy_chars (units_of bytes))

abbrev pub text_data : List ℕ → Data
text_data bytes = string (utf8_of bytes)

-- the hyphenated form in lower case
abbrev pub guid_data : List ℕ → Data
guid_data guid = string (hyphenated_text lower guid)
