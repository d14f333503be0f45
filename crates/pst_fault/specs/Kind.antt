-- The kinds of fault: their numbers, their names and their texts.
use Rattle.std.specs.Prelude.{ℕ, List, ◌++◌, codes}
use Rattle.std.specs.Fmt.{decimal}
use Rattle.pst_fault.specs.declared.kind.Kind.{Kind}
use Rattle.pst_fault.specs.declared.kind.Kind.TheVariants.{Short, Magic, Version, Encoded, HeaderCheck, Root, MapsInvalid, PagePlace, PageTrailer, PageShape, KeyOrder, Overlap, BlockPlace, BlockTrailer, BlockMissing, DataTree, Subnode, Nesting, MapPage, MapMissing, Heap, HeapId, Bth, Property, Table, NodeMissing, NodeKind, NoMemory}

-- the number under which a kind is printed
abbrev pub number_of : Kind → ℕ
number_of Short = 1
number_of Magic = 2
number_of (Version n) = 3
number_of (Encoded n) = 4
number_of HeaderCheck = 5
number_of Root = 6
number_of MapsInvalid = 7
number_of PagePlace = 8
number_of PageTrailer = 9
number_of PageShape = 10
number_of KeyOrder = 11
number_of Overlap = 12
number_of BlockPlace = 13
number_of BlockTrailer = 14
number_of BlockMissing = 15
number_of DataTree = 16
number_of Subnode = 17
number_of Nesting = 18
number_of MapPage = 19
number_of MapMissing = 20
number_of Heap = 21
number_of HeapId = 22
number_of Bth = 23
number_of Property = 24
number_of Table = 25
number_of NodeMissing = 26
number_of NodeKind = 27
number_of NoMemory = 28

-- the name of a kind
abbrev pub kind_name : Kind → List ℕ
kind_name Short = codes "Short"
kind_name Magic = codes "Magic"
kind_name (Version n) = codes "Version"
kind_name (Encoded n) = codes "Encoded"
kind_name HeaderCheck = codes "HeaderCheck"
kind_name Root = codes "Root"
kind_name MapsInvalid = codes "MapsInvalid"
kind_name PagePlace = codes "PagePlace"
kind_name PageTrailer = codes "PageTrailer"
kind_name PageShape = codes "PageShape"
kind_name KeyOrder = codes "KeyOrder"
kind_name Overlap = codes "Overlap"
kind_name BlockPlace = codes "BlockPlace"
kind_name BlockTrailer = codes "BlockTrailer"
kind_name BlockMissing = codes "BlockMissing"
kind_name DataTree = codes "DataTree"
kind_name Subnode = codes "Subnode"
kind_name Nesting = codes "Nesting"
kind_name MapPage = codes "MapPage"
kind_name MapMissing = codes "MapMissing"
kind_name Heap = codes "Heap"
kind_name HeapId = codes "HeapId"
kind_name Bth = codes "Bth"
kind_name Property = codes "Property"
kind_name Table = codes "Table"
kind_name NodeMissing = codes "NodeMissing"
kind_name NodeKind = codes "NodeKind"
kind_name NoMemory = codes "NoMemory"

-- the name, and the number that the file has there where the kind carries it
abbrev pub kind_text : Kind → List ℕ
kind_text (Version n) = codes "Version(" ++ decimal n ++ codes ")"
kind_text (Encoded n) = codes "Encoded(" ++ decimal n ++ codes ")"
kind_text kind = kind_name kind
