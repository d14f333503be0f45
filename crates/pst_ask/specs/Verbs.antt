-- The commands of the program, a line each.
use Rattle.std.specs.Prelude.{List, [], ◌∷◌, Option, find, codes}
use Rattle.std.specs.Str.{bytes_eq}
use Rattle.clap.specs.Words.{Text}
use Rattle.pst_ask.specs.declared.verb.Takes.{Takes}
use Rattle.pst_ask.specs.declared.verb.Takes.TheVariants.{File, Report, Digest, Node}
use Rattle.pst_ask.specs.declared.verb.Takes.TheVariants as takes
use Rattle.pst_ask.specs.declared.verb.Verb.{Verb}
use Rattle.pst_ask.specs.declared.verb.Verb.TheVariants.{Check, Damage, Head, Nodes, Folders, Contents, Messages, Props, Value, Export, Explain}

-- its name, and what stands behind that
abbrev pub line_of_verb : Verb → Text × Takes
line_of_verb Check = (codes "check", Report)
line_of_verb Damage = (codes "damage", Digest)
line_of_verb Head = (codes "head", File)
line_of_verb Nodes = (codes "nodes", File)
line_of_verb Folders = (codes "folders", takes.Whole)
line_of_verb Contents = (codes "contents", Node)
line_of_verb Messages = (codes "messages", takes.Whole)
line_of_verb Props = (codes "props", takes.Paths)
line_of_verb Value = (codes "value", takes.Property)
line_of_verb Export = (codes "export", takes.Whole)
line_of_verb Explain = (codes "explain", takes.Kind)

abbrev pub name_of : Verb → Text
name_of v = (line_of_verb v).0

abbrev pub takes_of : Verb → Takes
takes_of v = (line_of_verb v).1

-- all commands, in the order in which help shows them
abbrev pub verbs : List Verb
verbs = Check ∷ Damage ∷ Head ∷ Nodes ∷ Folders ∷ Contents ∷ Messages ∷ Props ∷ Value ∷ Export ∷ Explain ∷ []

-- the command of a name
abbrev pub verb_of : Text → Option Verb
verb_of name = find (λ v. bytes_eq (name_of v) name) verbs
