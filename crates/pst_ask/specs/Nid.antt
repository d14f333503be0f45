-- The words that name a node, and the way to something inside one.
use Rattle.std.specs.Prelude.{ℕ, Bool, ◌==◌, ◌&&◌, nat_le, List, [], ◌∷◌, length, drop, slice_index, Option, Some, None, option_map, if◌then◌else◌}
use Rattle.std.specs.List.{list_all, slice_split}
use Rattle.std.specs.Char.{is_digit}
use Rattle.std.specs.Str.Parse.{digits_value}

-- ---- a node: `0x`, and one to eight hexadecimal digits of either case

abbrev pub is_hex : ℕ → Bool
is_hex c = is_digit c 16

abbrev pub hex_number_in : List ℕ → Option ℕ
hex_number_in digits = if list_all is_hex digits then Some (digits_value 16 digits) else None

-- it begins with `0x`, and has so many bytes
abbrev pub has_frame : List ℕ → Bool
has_frame word = slice_index word 0 == 48 && slice_index word 1 == 120 && nat_le 3 (length word) && nat_le (length word) 10

unfoldable pub nid_of_word : List ℕ → Option ℕ
nid_of_word word = if has_frame word then hex_number_in (drop 2 word) else None

-- ---- several words

-- what words name, where each names something
abbrev pub with_named : {X : Type 0} → Option X → Option (List X) → Option (List X)
with_named None rest = None
with_named (Some x) rest = option_map (λ xs. x ∷ xs) rest

unfoldable pub all_named : {X : Type 0} → (List ℕ → Option X) → List (List ℕ) → Option (List X)
all_named name [] = Some []
all_named name (word ∷ rest) = with_named (name word) (all_named name rest)

-- ---- a path: a node, and what is inside it, one within the other: their identifiers, with slashes between them

abbrev pub pieces_of : List ℕ → List (List ℕ)
pieces_of word = slice_split (λ b. b == 47) word

-- the identifiers of the path that a word writes, one at least
abbrev pub path_of_word : List ℕ → Option (List ℕ)
path_of_word word = all_named nid_of_word (pieces_of word)

-- the paths that words write
abbrev pub paths_of : List (List ℕ) → Option (List (List ℕ))
paths_of words = all_named path_of_word words
