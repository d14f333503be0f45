-- The rules for entries: how many GUIDs there are, and the strings.
use Rattle.std.specs.Prelude.{ℕ, List}
use Rattle.pst_datatree.specs.declared.value_view.Value.{Value}
use Rattle.pst_datatree.specs.Shown.{bytes_in}
use Rattle.pst_names.specs.declared.strings.Strings.{Strings}
use Rattle.pst_names.specs.declared.string_index.StringIndex.{StringIndex}
use Rattle.pst_names.specs.declared.rules.Rules.{Rules}

-- the string stream, and its bytes
abbrev pub strings_value : Strings → Value
strings_value s = s.value

abbrev pub string_bytes : Strings → List ℕ
string_bytes s = bytes_in s.value

-- those of one with an index
abbrev pub strings_in : StringIndex → List ℕ
strings_in s = bytes_in s.value

abbrev pub rule_guids : Rules → ℕ
rule_guids r = r.guids

abbrev pub rule_strings : Rules → List ℕ
rule_strings r = strings_in r.strings
