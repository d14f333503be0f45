-- The kinds of fault, and the words that name them.
use Rattle.std.specs.Prelude.{ℕ, Bool, true, ◌&&◌, ◌||◌, ◌==◌, nat_le, if◌then◌else◌, List, [], ◌∷◌, ◌++◌, length, take, drop, Option, find, codes}
use Rattle.std.specs.Str.{str_eq_ignore_ascii_case}
use Rattle.pst_fault.specs.declared.kind.Kind.{Kind}
use Rattle.pst_fault.specs.declared.kind.Kind.TheVariants.{Short, Magic, Version, Encoded, HeaderCheck, Root, MapsInvalid, PagePlace, PageTrailer, PageShape, KeyOrder, Overlap, BlockPlace, BlockTrailer, BlockMissing, DataTree, Subnode, Nesting, MapPage, MapMissing, Heap, HeapId, Bth, Property, Table, NodeMissing, NodeKind, NoMemory}
use Rattle.pst_fault.specs.Kind.{kind_name}

-- all kinds, in the order of their numbers; those that carry a number of the file are explained whatever it is
abbrev pub kinds : List Kind
kinds =
    Short ∷ Magic ∷ (Version 0) ∷ (Encoded 0) ∷ HeaderCheck ∷ Root ∷ MapsInvalid ∷ PagePlace ∷ PageTrailer ∷ PageShape ∷ KeyOrder ∷ Overlap ∷ BlockPlace ∷ BlockTrailer ∷ BlockMissing ∷ DataTree ∷ Subnode ∷ Nesting ∷ MapPage ∷ MapMissing ∷ Heap ∷ HeapId ∷ Bth ∷ Property ∷ Table ∷ NodeMissing ∷ NodeKind ∷ NoMemory ∷ []

-- its name
abbrev pub word_of_name : Kind → List ℕ
word_of_name k = kind_name k

-- its number, in decimal
abbrev pub word_of_number : Kind → List ℕ
word_of_number Short = codes "1"
word_of_number Magic = codes "2"
word_of_number (Version n) = codes "3"
word_of_number (Encoded n) = codes "4"
word_of_number HeaderCheck = codes "5"
word_of_number Root = codes "6"
word_of_number MapsInvalid = codes "7"
word_of_number PagePlace = codes "8"
word_of_number PageTrailer = codes "9"
word_of_number PageShape = codes "10"
word_of_number KeyOrder = codes "11"
word_of_number Overlap = codes "12"
word_of_number BlockPlace = codes "13"
word_of_number BlockTrailer = codes "14"
word_of_number BlockMissing = codes "15"
word_of_number DataTree = codes "16"
word_of_number Subnode = codes "17"
word_of_number Nesting = codes "18"
word_of_number MapPage = codes "19"
word_of_number MapMissing = codes "20"
word_of_number Heap = codes "21"
word_of_number HeapId = codes "22"
word_of_number Bth = codes "23"
word_of_number Property = codes "24"
word_of_number Table = codes "25"
word_of_number NodeMissing = codes "26"
word_of_number NodeKind = codes "27"
word_of_number NoMemory = codes "28"

-- both, as a line has them: `14 BlockTrailer`
abbrev pub number_and_name : Kind → List ℕ
number_and_name k = word_of_number k ++ codes " " ++ word_of_name k

-- ---- the word that names a kind: its number, its name or both, of letters of either case, as they are typed or as they are printed

-- the same letters, of either case
abbrev pub same : List ℕ → List ℕ → Bool
same a b = str_eq_ignore_ascii_case a b

-- a word begins with these letters, of either case
abbrev pub begins : List ℕ → List ℕ → Bool
begins letters word = same (take (length letters) word) letters && nat_le (length letters) (length word)

-- nothing, or a parenthesis or a blank and whatever is behind it: where a name ends that is printed, as in `Encoded(1) at 0x201`
abbrev pub is_end : List ℕ → Bool
is_end [] = true
is_end (b ∷ rest) = b == 40 || b == 32

-- a word begins with these letters, of either case, and they end there
abbrev pub is_led_by : List ℕ → List ℕ → Bool
is_led_by letters word = begins letters word && is_end (drop (length letters) word)

-- a word names it: by its number; or by its name, or both, with what is printed behind that
abbrev pub is_named : List ℕ → Kind → Bool
is_named word k = same word (word_of_number k) || is_led_by (word_of_name k) word || is_led_by (number_and_name k) word

-- a word behind the `no: ` with which the line of a fault begins
abbrev pub behind_no : List ℕ → List ℕ
behind_no word = if begins (codes "no: ") word then drop 4 word else word

-- the kind that a word names, with `no: ` in front of it or without
abbrev pub kind_in_word : List ℕ → Option Kind
kind_in_word word = find (is_named (behind_no word)) kinds
