-- What the words after the program's name ask for.
use Rattle.std.specs.Prelude.{◌≡◌, ◌≢◌, ⊤, true, false, List, [], ◌∷◌, map, ◌++◌, Bool, Some, Result, Ok, Err, codes, string_bytes, String}
use Rattle.std.specs.Global.{Global}
use Rattle.clap.specs.Words.{App, Shape, AddsSubcommand, app_of, Rule, Text, new_app, new_rule, with_rule, with_subcommand, subcommand_of, fault_of, HasKind}
use Rattle.clap.specs.declared.builder.action.ArgAction.TheVariants.{Append, SetTrue}
use Rattle.clap.specs.declared.builder.command.Command.{Command}
use Rattle.clap.specs.declared.builder.command.Command.TheViews.{out-Command}
use Rattle.pst_ask.specs.declared.ask.Lack.{Lack}
use Rattle.pst_ask.specs.declared.verb.Takes.{Takes}
use Rattle.pst_ask.specs.declared.verb.Takes.TheVariants.{File, Report, Digest, Node}
use Rattle.pst_ask.specs.declared.verb.Takes.TheVariants as takes
use Rattle.pst_ask.specs.declared.verb.Verb.{Verb}
use Rattle.pst_ask.specs.declared.words.NoOrder.{NoOrder}
use Rattle.pst_ask.specs.declared.words.NoOrder.TheVariants.{Words, Lacks}
use Rattle.pst_ask.specs.Ask.{Flags, Ordered, asked_in, asks}
use Rattle.pst_ask.specs.Verbs.{name_of, takes_of, verbs}

abbrev pub texts : List (String Global) → List Text
texts = map string_bytes

-- ---- the command line

-- a word that has to be there
abbrev pub word_rule : Text → Rule
word_rule id = record (new_rule id) { required = true }

-- words, of which one has to be there at least
abbrev pub several_rule : Text → Rule
several_rule id = record (word_rule id) { action = Some Append }

-- a flag: two hyphens, and its name
abbrev pub flag_rule : Text → Rule
flag_rule id = record (new_rule id) { long = Some id; action = Some SetTrue }

-- with the flags that not every command with a file has
abbrev pub with_file_flags : Takes → App → App
with_file_flags File a = a
with_file_flags Report a = with_rule (with_rule a (flag_rule (codes "strict"))) (flag_rule (codes "digest"))
with_file_flags Digest a = with_rule a (flag_rule (codes "digest"))
with_file_flags takes.Whole a = with_rule a (flag_rule (codes "whole"))
with_file_flags Node a = with_rule a (flag_rule (codes "whole"))
with_file_flags takes.Paths a = with_rule (with_rule a (flag_rule (codes "places"))) (flag_rule (codes "whole"))
with_file_flags takes.Property a = with_rule (with_rule a (flag_rule (codes "text"))) (flag_rule (codes "whole"))
with_file_flags takes.Kind a = a

-- with a file, which may be decoded
abbrev pub with_file : Takes → App → App
with_file takes.Kind a = a
with_file takes a = with_rule (with_rule a (flag_rule (codes "decode"))) (word_rule (codes "FILE"))

-- with what stands behind the file
abbrev pub with_words : Takes → App → App
with_words File a = a
with_words Report a = a
with_words Digest a = a
with_words takes.Whole a = a
with_words Node a = with_rule a (word_rule (codes "NID"))
with_words takes.Paths a = with_rule a (several_rule (codes "PATH"))
with_words takes.Property a = with_rule (with_rule a (word_rule (codes "PATH"))) (word_rule (codes "ID"))
with_words takes.Kind a = with_rule a (new_rule (codes "KIND"))

-- a command of a name, and what stands behind that
abbrev pub app_taking : Takes → Text → App
app_taking takes name = with_words takes (with_file takes (with_file_flags takes (new_app name)))

abbrev pub app_for : Verb → App
app_for verb = app_taking (takes_of verb) (name_of verb)

-- each argument of a command is its own alone
abbrev pub IsAlone : Command → Type 0
IsAlone command = (out-Command command).has_globals ≡ false

-- a command is this one, and each of its arguments is its own alone
abbrev pub IsOwn : App → Command → Type 0
IsOwn a command = (app_of command ≡ a) × IsAlone command

-- a command line that gains this command gains this shape
abbrev pub AddsAs : Shape → Command → Type 0
AddsAs shape command = (old new : Command) → AddsSubcommand old command new → app_of new ≡ with_subcommand (app_of old) shape

-- the program, without its commands: one of them has to be named
abbrev pub base : App
base = let a = new_app (codes "pst_show") in record a { top = record a.top { has_version = true; no_binary_name = true; subcommand_required = true } }

abbrev pub with_verb : App → Verb → App
with_verb a verb = with_subcommand a (app_for verb).top

abbrev pub with_verbs : App → List Verb → App
with_verbs a [] = a
with_verbs a (verb ∷ rest) = with_verbs (with_verb a verb) rest

-- the command line of the program
abbrev pub show_app : App
show_app = with_verbs base verbs

-- ---- what is asked for

-- what the words ask for, where they are accepted
unfoldable pub asked : List Text → Result Ordered Lack
asked words = asked_in (subcommand_of show_app words)

-- the words are accepted, and ask for this
pub record IsAsked (words : List Text) (order : Ordered) : Type 0 where
  pub accepted : fault_of show_app words ≡ []
  pub is : asked words ≡ Ok order

-- a word that begins with no hyphen, or is one
abbrev pub IsNoOption : Text → Type 0
IsNoOption [] = ⊤
IsNoOption (b ∷ []) = ⊤
IsNoOption (b ∷ c ∷ rest) = b ≢ 45

-- the words of the flags that are used, of those that a command has
abbrev pub flag_if : Bool → Text → List Text
flag_if true flag = flag ∷ []
flag_if false flag = []

abbrev pub own_flags : Takes → Flags → List Text
own_flags File flags = []
own_flags Report flags = flag_if flags.strict (codes "--strict") ++ flag_if flags.digest (codes "--digest")
own_flags Digest flags = flag_if flags.digest (codes "--digest")
own_flags takes.Whole flags = flag_if flags.whole (codes "--whole")
own_flags Node flags = flag_if flags.whole (codes "--whole")
own_flags takes.Paths flags = flag_if flags.places (codes "--places") ++ flag_if flags.whole (codes "--whole")
own_flags takes.Property flags = flag_if flags.text (codes "--text") ++ flag_if flags.whole (codes "--whole")
own_flags takes.Kind flags = []

-- with them a file, and whether that is decoded first
abbrev pub to_file : Takes → Flags → Text → List Text
to_file takes.Kind flags file = []
to_file takes flags file = own_flags takes flags ++ flag_if flags.decode (codes "--decode") ++ file ∷ []

abbrev pub behind_file : Takes → List Text → List Text
behind_file File words = []
behind_file Report words = []
behind_file Digest words = []
behind_file takes.Whole words = []
behind_file Node words = words
behind_file takes.Paths words = words
behind_file takes.Property words = words
behind_file takes.Kind words = words

-- a command's words: its name, the flags that are used, a file, and what stands behind it; of `explain` no flag and no file
abbrev pub words_for : Verb → Flags → Text → List Text → List Text
words_for v flags file words = name_of v ∷ to_file (takes_of v) flags file ++ behind_file (takes_of v) words

-- The words of each command, with each of its flags or without, are accepted, and ask for what the command shows of the file
-- that they name, whatever its name, if it begins with no hyphen, or is one: decoded with `--decode`, what is whole of it with `--whole`, of `contents` of the node
-- that they name, of `props` of all of the paths, however many and however long, of `value` of the path and the property. The
-- words of `explain` ask for the kind that they name, or for all.
abbrev pub WordsLaw : Type 0
WordsLaw = (v : Verb) (flags : Flags) (file : Text) (words : List Text) (order : Ordered)
    → IsNoOption file → asks v flags file words ≡ Some order → IsAsked (words_for v flags file words) order

-- ---- where nothing is done

-- why nothing is done for these words
abbrev pub Declines : List Text → NoOrder → Type 0
Declines words (Words e) = HasKind (fault_of show_app words) e
Declines words (Lacks lack) = (fault_of show_app words ≡ []) × (asked words ≡ Err lack)
