-- What each kind of fault says of a file, in plain words.
use Rattle.std.specs.Prelude.{ℕ, List, ◌++◌, map, Option, Some, None, codes}
use Rattle.std.specs.List.{concat}
use Rattle.pst_fault.specs.declared.kind.Kind.{Kind}
use Rattle.pst_fault.specs.declared.kind.Kind.TheVariants.{Short, Magic, Version, Encoded, HeaderCheck, Root, MapsInvalid, PagePlace, PageTrailer, PageShape, KeyOrder, Overlap, BlockPlace, BlockTrailer, BlockMissing, DataTree, Subnode, Nesting, MapPage, MapMissing, Heap, HeapId, Bth, Property, Table, NodeMissing, NodeKind, NoMemory}
use Rattle.pst_explain.specs.Kinds.{kinds, word_of_name, word_of_number}

-- what it says, what `at`, `bid` and `nid` are, what to do next, and the section of [MS-PST]
pub record Words : Type 0 where
  pub says : List ℕ
  pub at : List ℕ
  pub bid : List ℕ
  pub nid : List ℕ
  pub next : List ℕ
  pub section : List ℕ

abbrev pub words : List ℕ → List ℕ → List ℕ → List ℕ → List ℕ → List ℕ → Words
words says at bid nid next section = record { says = says; at = at; bid = bid; nid = nid; next = next; section = section }

abbrev pub words_of : Kind → Words
words_of Short = words (codes "the file has less than the 564 bytes of a header") (codes "0x0, nothing") (codes "0x0, nothing") (codes "0x0, nothing")
    (codes "Look whether it was copied whole: so short a file is no store") (codes "2.2.2.6")
words_of Magic = words (codes "the file does not begin as a .pst does: it is another sort of file, or its first bytes are overwritten") (codes "0x0 or 0x8, where a magic number stands") (codes "0x0, nothing") (codes "0x0, nothing")
    (codes "Look what sort of file it is; with 0x8 it may be an offline store (.ost)") (codes "2.2.2.6")
words_of (Version n) = words (codes "the file is of version n, and not of 23") (codes "0xa, where the version stands") (codes "0x0, nothing") (codes "0x0, nothing")
    (codes "It is outside the profile, and not said to be damaged: 14 and 15 are ANSI stores, 36 is one with pages of 4,096 bytes. Another program has to read it") (codes "2.2.2.6")
words_of (Encoded n) = words (codes "the contents are encoded by method n: 1 is Outlook's default; --decode reads 1 and 2") (codes "0x201, where the method of encoding stands") (codes "0x0, nothing") (codes "0x0, nothing")
    (codes "Give the command --decode. With another n than 1 and 2 it is outside the profile, and not said to be damaged: another program has to read it") (codes "2.2.2.6")
words_of HeaderCheck = words (codes "a check value of the header does not fit its bytes") (codes "0x4 or 0x20c, where the check value stands") (codes "0x0, nothing") (codes "0x0, nothing")
    (codes "The first 564 bytes are damaged: take the file from a backup; damage lists what is broken, and messages --whole and export --whole give what is whole") (codes "2.2.2.6")
words_of Root = words (codes "at 0xb8: the file is shorter than its header says, as when it was cut off; at 0xc0: the last allocation map is said to lie where none can") (codes "0xb8 or 0xc0, where the number stands") (codes "0x0, nothing") (codes "0x0, nothing")
    (codes "With 0xb8 look whether the file was copied whole; else take it from a backup; damage lists what is broken, and messages --whole and export --whole give what is whole") (codes "2.2.2.5")
words_of MapsInvalid = words (codes "the header marks the allocation maps as invalid") (codes "0xf8, where the mark stands") (codes "0x0, nothing") (codes "0x0, nothing")
    (codes "It is outside the profile, and not said to be damaged: Outlook builds the maps anew when it next opens the store; where nothing may change it, damage lists what else is broken, and messages --whole and export --whole show what is whole") (codes "2.2.2.5")
words_of PagePlace = words (codes "a page is said to lie where none can") (codes "the page, where it is said to lie") (codes "that of the reference to the page") (codes "0x0, nothing")
    (codes "An index tree is broken: take the file from a backup; damage lists what is broken, and messages --whole and export --whole give what is whole") (codes "2.2.2.7")
words_of PageTrailer = words (codes "the last 16 bytes of a page do not fit the page and the reference to it: one of these is damaged or overwritten") (codes "the page") (codes "that of the reference to the page") (codes "0x0, nothing")
    (codes "An index tree is broken: take the file from a backup; damage lists what is broken, and messages --whole and export --whole give what is whole") (codes "2.2.2.7.1")
words_of PageShape = words (codes "the counts in a page are impossible") (codes "the page") (codes "that of the reference to the page") (codes "0x0, nothing")
    (codes "An index tree is broken: take the file from a backup; damage lists what is broken, and messages --whole and export --whole give what is whole") (codes "2.2.2.7.7.1")
words_of KeyOrder = words (codes "the entries of an index tree are out of order") (codes "the entry") (codes "that of the page") (codes "0x0, nothing")
    (codes "An index tree is broken: take the file from a backup; damage lists what is broken, and messages --whole and export --whole give what is whole") (codes "2.2.2.7.7")
words_of Overlap = words (codes "two things lie on the same bytes") (codes "the page or block that comes second") (codes "its own") (codes "0x0, nothing")
    (codes "One of the two, or what names it, is overwritten: take the file from a backup; damage lists what is broken, and messages --whole and export --whole give what is whole") (codes "2.2.2.7 and 2.2.2.8")
words_of BlockPlace = words (codes "a block is said to lie where none can, or is too long") (codes "the block, where its entry says") (codes "that of its entry") (codes "0x0, nothing")
    (codes "Take the file from a backup; damage lists the nodes that this breaks, and messages --whole and export --whole give what is whole") (codes "2.2.2.8")
words_of BlockTrailer = words (codes "the last 16 bytes of a block do not fit the block and its entry: one of these is damaged or overwritten") (codes "the block, where its entry says") (codes "that of its entry") (codes "0x0, nothing")
    (codes "Take the file from a backup; damage lists the nodes that this breaks, and messages --whole and export --whole give what is whole") (codes "2.2.2.8.1")
words_of BlockMissing = words (codes "a block is named that the index does not have") (codes "0x0, nothing") (codes "that which is missing, as it is written") (codes "the node that leads to it")
    (codes "Take the file from a backup; damage lists what is broken, and messages --whole and export --whole give what is whole") (codes "2.2.2.7.7.3")
words_of DataTree = words (codes "the list of the blocks that a node's data is made of is broken") (codes "the XBLOCK or XXBLOCK with the breach") (codes "that of its entry") (codes "the node whose data it is")
    (codes "Take the file from a backup; damage lists what is broken, and messages --whole and export --whole give what is whole") (codes "2.2.2.8.3.2")
words_of Subnode = words (codes "a list of subnodes is broken, or a value names a subnode that is not there") (codes "the block of the list with the breach, or the four bytes that name the subnode") (codes "that of the block's entry, or the identifier of the node's or subnode's data, as it is written") (codes "the node")
    (codes "Ask check of the file: props and value tell this also of a node that has no properties, as a table, in a store that is whole. Else take the file from a backup; damage lists what is broken, and messages --whole and export --whole give what is whole") (codes "2.2.2.8.3.3")
words_of Nesting = words (codes "subnodes nest more than 256 deep, or in a circle") (codes "0x0, nothing") (codes "what the node names as its subnodes, as it is written") (codes "the node")
    (codes "Take the file from a backup; damage lists what is broken, and messages --whole and export --whole give what is whole") (codes "2.2.2.8.3.3")
words_of MapPage = words (codes "a page of the allocation maps is damaged") (codes "the page") (codes "0x0, nothing") (codes "0x0, nothing")
    (codes "Outlook builds the maps anew where the header marks them as invalid; on a copy, and with the file in a backup") (codes "2.2.2.7.2")
words_of MapMissing = words (codes "bytes are in use that the allocation maps call free, so a writer may overwrite them") (codes "the 64 bytes that are in use") (codes "0x0, nothing") (codes "0x0, nothing")
    (codes "Let no program write to the store before it is copied") (codes "2.2.2.7.2")
words_of Heap = words (codes "a node's data is not laid out as the heap that holds properties or a table") (codes "the block of the data, 0x0 where there is none") (codes "the identifier of the node's or subnode's data, as it is written") (codes "the node")
    (codes "Ask check of the file: props and value tell this also of a node that has no properties, as a table, in a store that is whole. Else take the file from a backup; damage lists what is broken, and messages --whole and export --whole give what is whole") (codes "2.3.1")
words_of HeapId = words (codes "something is named in a heap that is not there") (codes "the four bytes that name it") (codes "the identifier of the node's or subnode's data, as it is written") (codes "the node")
    (codes "Ask check of the file: props and value tell this also of a node that has no properties, as a table, in a store that is whole. Else take the file from a backup; damage lists what is broken, and messages --whole and export --whole give what is whole") (codes "2.3.1.1")
words_of Bth = words (codes "an index in a heap is broken or out of order") (codes "the item of the heap, or the record out of order") (codes "the identifier of the node's or subnode's data, as it is written") (codes "the node")
    (codes "Ask check of the file: props and value tell this also of a node that has no properties, as a table, in a store that is whole. Else take the file from a backup; damage lists what is broken, and messages --whole and export --whole give what is whole") (codes "2.3.2")
words_of Property = words (codes "the value of a property has a length that its type does not allow, or the map of the names of properties is broken") (codes "the record of the property, or the cell; of that map, the stream or the entry with the breach") (codes "the identifier of the node's or subnode's data, as it is written") (codes "the node")
    (codes "Ask check of the file: props and value tell this also of a node that has no properties, as a table, in a store that is whole. Else take the file from a backup; damage lists what is broken, and messages --whole and export --whole give what is whole") (codes "2.3.3, of that map 2.4.7")
words_of Table = words (codes "a table's description, a column or a row is broken") (codes "the description (TCINFO), the column, or the record of the row") (codes "the identifier of the node's or subnode's data, as it is written") (codes "the node")
    (codes "Take the file from a backup; damage lists what is broken, and messages --whole and export --whole give what is whole") (codes "2.3.4")
words_of NodeMissing = words (codes "a folder, message or attachment is named that is not there, or the store lacks its root folder or its own properties") (codes "the bytes that name it, 0x0 where every store has to have it") (codes "that of the data in which they stand") (codes "the node that is missing")
    (codes "Take the file from a backup; damage lists what is broken, and messages --whole and export --whole give what is whole") (codes "2.4")
words_of NodeKind = words (codes "what is named is of the wrong kind, as a folder in a list of messages") (codes "the bytes that name it") (codes "that of the data in which they stand") (codes "the node that is named")
    (codes "Take the file from a backup; damage lists what is broken, and messages --whole and export --whole give what is whole") (codes "2.2.2.1")
words_of NoMemory = words (codes "memory was refused, and nothing is said of the file: out of memory, and status 4") (codes "0x0, nothing") (codes "0x0, nothing") (codes "0x0, nothing")
    (codes "Give it as much memory as the file is long, and as the text that it shows") (codes "none")

-- its line
abbrev pub line_of : Kind → List ℕ
line_of k = word_of_number k ++ codes " " ++ word_of_name k ++ codes ": " ++ (words_of k).says ++ codes "\n"

-- the lines of all kinds
abbrev pub all_text : List ℕ
all_text = concat (map line_of kinds)

-- the text of a kind: its line, and five more
abbrev pub text_with : Kind → Words → List ℕ
text_with k w =
    line_of k ++ codes "  at: " ++ w.at ++ codes "\n  bid: " ++ w.bid ++ codes "\n  nid: " ++ w.nid ++ codes "\n  to do: " ++ w.next
    ++ codes "\n  [MS-PST]: " ++ w.section ++ codes "\n"

abbrev pub text_of : Kind → List ℕ
text_of k = text_with k (words_of k)

-- of one kind, or of all
abbrev pub explanation : Option Kind → List ℕ
explanation None = all_text
explanation (Some k) = text_of k
