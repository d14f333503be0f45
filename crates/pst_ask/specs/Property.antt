-- The word that names a property: four hexadecimal digits of either case.
use Rattle.std.specs.Prelude.{ℕ, ◌==◌, List, length, Option, None, if◌then◌else◌}
use Rattle.pst_ask.specs.Nid.{hex_number_in}

unfoldable pub property_of_word : List ℕ → Option ℕ
property_of_word word = if length word == 4 then hex_number_in word else None
