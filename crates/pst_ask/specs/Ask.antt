-- What the matches of the words ask for.
use Rattle.std.specs.Prelude.{◌≡◌, ◌⊎◌, ℕ, Bool, false, List, [], ◌∷◌, map, Option, Some, None, option_map, Result, Ok, Err, codes}
use Rattle.std.specs.Str.{bytes_eq}
use Rattle.clap.specs.Words.{Text, Row, all_of, first_of, kind_of}
use Rattle.clap.specs.declared.error.kind.ErrorKind.TheVariants.{OutOfMemory}
use Rattle.pst_fault.specs.declared.kind.Kind.{Kind}
use Rattle.pst_explain.specs.Kinds.{kind_in_word}
use Rattle.pst_ask.specs.declared.ask.Ask.{Ask}
use Rattle.pst_ask.specs.declared.ask.Ask.TheVariants as ask
use Rattle.pst_ask.specs.declared.ask.Lack.{Lack}
use Rattle.pst_ask.specs.declared.ask.Lack.TheVariants.{Nid, Nothing}
use Rattle.pst_ask.specs.declared.ask.Lack.TheVariants as lack
use Rattle.pst_ask.specs.declared.ask.Order.{Order}
use Rattle.pst_ask.specs.declared.ask.Order.TheVariants as order
use Rattle.pst_ask.specs.declared.ask.Request.{Request}
use Rattle.pst_ask.specs.declared.verb.Verb.{Verb}
use Rattle.pst_ask.specs.declared.verb.Verb.TheVariants.{Check, Damage, Head, Nodes, Folders, Contents, Messages, Props, Value, Export, Explain}
use Rattle.pst_ask.specs.declared.words.NoOrder.{NoOrder}
use Rattle.pst_ask.specs.declared.words.NoOrder.TheVariants.{Words, Lacks}
use Rattle.pst_ask.specs.declared.path.Path.{Path}
use Rattle.pst_ask.specs.Nid.{nid_of_word, path_of_word, paths_of}
use Rattle.pst_ask.specs.Property.{property_of_word}
use Rattle.pst_ask.specs.Verbs.{verb_of}

-- ---- what is to be shown

pub data Wanted : Type 0 where
  -- the report of a check: whether it is strict, and whether it has the digest of the file
  report : Bool → Bool → Wanted
  -- all that is broken, and whether with the digest of the file
  damage : Bool → Wanted
  head : Wanted
  nodes : Wanted
  folders : Wanted
  -- the messages of the folder with an identifier
  contents : ℕ → Wanted
  -- all its messages
  messages : Wanted
  -- the properties of what these paths lead to, one after another, and whether with their places
  props : Bool → List (List ℕ) → Wanted
  -- the value of a property of what a path leads to, and whether a text is written as UTF-8
  value : Bool → List ℕ → ℕ → Wanted
  -- all that a store has, as an archive
  export : Wanted

-- the identifiers of a path
abbrev pub nids_of : Path → List ℕ
nids_of path = path.nids.items

abbrev pub wanted_of : Ask → Wanted
wanted_of (ask.Check strict digest) = report strict digest
wanted_of (ask.Damage digest) = damage digest
wanted_of ask.Head = head
wanted_of ask.Nodes = nodes
wanted_of ask.Folders = folders
wanted_of (ask.Contents nid) = contents nid
wanted_of ask.Messages = messages
wanted_of (ask.Props places paths) = props places (map nids_of paths.items)
wanted_of (ask.Value text path id) = value text (nids_of path) id
wanted_of ask.Export = export

-- what is to be shown, of which file, whether that is decoded first, and whether what is whole of a damaged one is shown
pub record Asked : Type 0 where
  pub ask : Wanted
  pub decode : Bool
  pub whole : Bool
  pub file : Text

abbrev pub asked_of : Wanted → Bool → Bool → Text → Asked
asked_of ask decode whole file = record { ask = ask; decode = decode; whole = whole; file = file }

abbrev pub request_of : Request → Asked
request_of request = asked_of (wanted_of request.ask) request.decode request.whole request.file.now

-- what is to be done: to show something of a file, or to explain a kind of fault, or all kinds
pub data Ordered : Type 0 where
  show : Asked → Ordered
  explain : Option Kind → Ordered

abbrev pub order_of : Order → Ordered
order_of (order.Show request) = show (request_of request)
order_of (order.Explain kind) = explain kind

-- nothing is done for want of memory
abbrev pub IsForMemory : NoOrder → Type 0
IsForMemory (Words e) = kind_of e ≡ OutOfMemory
IsForMemory (Lacks lack) = ⊥

-- what is read of the words is the answer, or the answer is this lack, unless memory ran out
abbrev pub Reads : {X Y : Type 0} → (X → Y) → Result X NoOrder → Result Y Lack → Type 0
Reads shown (Ok x) answer = answer ≡ Ok (shown x)
Reads shown (Err (Words e)) answer = kind_of e ≡ OutOfMemory
Reads shown (Err (Lacks lack)) answer = answer ≡ Err lack

-- ---- by what stands behind the name of a command

-- a flag that is used
abbrev pub is_true : Option Text → Bool
is_true None = false
is_true (Some text) = bytes_eq text (codes "true")

abbrev pub is_used : Text → List Row → Bool
is_used flag rows = is_true (first_of flag rows)

-- what a word names, or that it names nothing
abbrev pub or_lack : {X : Type 0} → Lack → Option X → Result X Lack
or_lack lack None = Err lack
or_lack lack (Some x) = Ok x

abbrev pub word_named : {X : Type 0} → Lack → (Text → Option X) → Option Text → Result X Lack
word_named lack name None = Err Nothing
word_named lack name (Some word) = or_lack lack (name word)

abbrev pub node_named : Option Text → Result ℕ Lack
node_named word = word_named Nid nid_of_word word

abbrev pub path_named : Option Text → Result (List ℕ) Lack
path_named word = word_named Nid path_of_word word

abbrev pub property_named : Option Text → Result ℕ Lack
property_named word = word_named lack.Property property_of_word word

abbrev pub paths_named : Option (List Text) → Result (List (List ℕ)) Lack
paths_named None = Err Nothing
paths_named (Some words) = or_lack Nid (paths_of words)

-- a word names nothing of the sort that is lacking: no path or no node, no property, or no kind
abbrev pub IsNoName : Lack → Text → Type 0
IsNoName Nid word = (path_of_word word ≡ None) ⊎ (nid_of_word word ≡ None)
IsNoName lack.Property word = property_of_word word ≡ None
IsNoName lack.Kind word = kind_in_word word ≡ None
IsNoName Nothing word = ⊥

-- a kind, or all where none is named
abbrev pub kind_named : Option Text → Result (Option Kind) Lack
kind_named None = Ok None
kind_named (Some word) = or_lack lack.Kind (option_map Some (kind_in_word word))

abbrev pub asking : {X Y : Type 0} → (X → Y) → Result X Lack → Result Y Lack
asking make (Ok x) = Ok (make x)
asking make (Err lack) = Err lack

-- two words: what the first one lacks is told first
abbrev pub both_of : {X Y Z : Type 0} → (X → Y → Z) → Result X Lack → Result Y Lack → Result Z Lack
both_of make (Err lack) y = Err lack
both_of make (Ok x) y = asking (make x) y

-- with the file, whether that is decoded first, and whether of what is whole
abbrev pub of_named : Wanted → Bool → Bool → Option Text → Result Ordered Lack
of_named ask decode whole None = Err Nothing
of_named ask decode whole (Some file) = Ok (show (asked_of ask decode whole file))

abbrev pub of_file : List Row → Result Wanted Lack → Result Ordered Lack
of_file rows (Err lack) = Err lack
of_file rows (Ok ask) = of_named ask (is_used (codes "decode") rows) (is_used (codes "whole") rows) (first_of (codes "FILE") rows)

-- what a command asks for by its matches
abbrev pub asked_by : Verb → List Row → Result Ordered Lack
asked_by Check rows = of_file rows (Ok (report (is_used (codes "strict") rows) (is_used (codes "digest") rows)))
asked_by Damage rows = of_file rows (Ok (damage (is_used (codes "digest") rows)))
asked_by Head rows = of_file rows (Ok head)
asked_by Nodes rows = of_file rows (Ok nodes)
asked_by Folders rows = of_file rows (Ok folders)
asked_by Contents rows = of_file rows (asking contents (node_named (first_of (codes "NID") rows)))
asked_by Messages rows = of_file rows (Ok messages)
asked_by Props rows = of_file rows (asking (props (is_used (codes "places") rows)) (paths_named (all_of (codes "PATH") rows)))
asked_by Value rows =
    of_file rows (both_of (value (is_used (codes "text") rows)) (path_named (first_of (codes "PATH") rows)) (property_named (first_of (codes "ID") rows)))
asked_by Export rows = of_file rows (Ok export)
asked_by Explain rows = asking explain (kind_named (first_of (codes "KIND") rows))

abbrev pub asked_with : Option Verb → List Row → Result Ordered Lack
asked_with None rows = Err Nothing
asked_with (Some verb) rows = asked_by verb rows

-- of the command that the words name, with its matches
abbrev pub asked_in : Option (Text × List Row) → Result Ordered Lack
asked_in None = Err Nothing
asked_in (Some p) = asked_with (verb_of p.0) p.1

-- ---- by the words themselves

-- which flags are used: of these a command has its own
pub record Flags : Type 0 where
  pub strict : Bool
  pub digest : Bool
  pub places : Bool
  pub text : Bool
  pub whole : Bool
  pub decode : Bool

-- what is shown of a file, or of what is whole of it
abbrev pub shows : Flags → Bool → Text → Option Wanted → Option Ordered
shows flags whole file wanted = option_map (λ ask. show (asked_of ask flags.decode whole file)) wanted

-- the node that is named, where one word stands there
abbrev pub only_node : List Text → Option ℕ
only_node [] = None
only_node (word ∷ []) = nid_of_word word
only_node (word ∷ next ∷ rest) = None

-- the paths of words, where one stands there at least
abbrev pub some_paths : List Text → Option (List (List ℕ))
some_paths [] = None
some_paths (word ∷ rest) = paths_of (word ∷ rest)

-- the path and the property that are named, where two words stand there
abbrev pub both_named : Option (List ℕ) → Option ℕ → Option (List ℕ × ℕ)
both_named None id = None
both_named (Some path) id = option_map (λ n. (path, n)) id

abbrev pub only_property : List Text → Option (List ℕ × ℕ)
only_property [] = None
only_property (word ∷ []) = None
only_property (path ∷ id ∷ []) = both_named (path_of_word path) (property_of_word id)
only_property (path ∷ id ∷ next ∷ rest) = None

-- the kind that is named, or all where no word stands there
abbrev pub only_kind : List Text → Option (Option Kind)
only_kind [] = Some None
only_kind (word ∷ []) = option_map Some (kind_in_word word)
only_kind (word ∷ next ∷ rest) = None

-- What a command asks for by its flags, its file and the words behind that, where they are words of it: of `contents` a node,
-- of `props` paths, of `value` a path and a property. `explain` has no file: of it they are a kind, or none.
abbrev pub asks : Verb → Flags → Text → List Text → Option Ordered
asks Check flags file words = shows flags false file (Some (report flags.strict flags.digest))
asks Damage flags file words = shows flags false file (Some (damage flags.digest))
asks Head flags file words = shows flags false file (Some head)
asks Nodes flags file words = shows flags false file (Some nodes)
asks Folders flags file words = shows flags flags.whole file (Some folders)
asks Contents flags file words = shows flags flags.whole file (option_map contents (only_node words))
asks Messages flags file words = shows flags flags.whole file (Some messages)
asks Props flags file words = shows flags flags.whole file (option_map (props flags.places) (some_paths words))
asks Value flags file words = shows flags flags.whole file (option_map (λ p. value flags.text p.0 p.1) (only_property words))
asks Export flags file words = shows flags flags.whole file (Some export)
asks Explain flags file words = option_map explain (only_kind words)
