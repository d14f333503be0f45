-- What documents are made of: numbers and lists.
use Rattle.std.specs.Prelude.{ℕ, ℤ, List, map}
use Rattle.serde_json.specs.Data.{Data, number, unsigned, array}
use Rattle.serde_json.specs.View.{items_of}
use Rattle.serde_json.specs.Find.{of_integer}

abbrev pub natural : ℕ → Data
natural n = number (unsigned n)

abbrev pub integer : ℤ → Data
integer z = number (of_integer z)

-- a list, an item for each
abbrev pub list_data : {X : Type 0} → (X → Data) → List X → Data
list_data shown xs = array (items_of (map shown xs))
