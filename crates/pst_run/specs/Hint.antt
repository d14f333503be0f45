-- The line more that is said on a terminal.
use Rattle.std.specs.Prelude.{ℕ, Bool, false, not, ◌&&◌, ◌||◌, ◌==◌, if◌then◌else◌, List, [], ◌++◌, codes}
use Rattle.std.specs.Fmt.{decimal}
use Rattle.pst_fault.specs.Kind.{number_of}
use Rattle.pst_fault.specs.declared.kind.Kind.{Kind}
use Rattle.pst_fault.specs.declared.kind.Kind.TheVariants.{Encoded}
use Rattle.pst_run.specs.Outside.{is_outside}
use Rattle.pst_ask.specs.declared.ask.Lack.{Lack}
use Rattle.pst_ask.specs.declared.ask.Lack.TheVariants.{Nid, Property, Kind as NoKind, Nothing}

-- it helps to decode a file that is encoded by one of the two methods, and was not decoded
abbrev pub is_to_decode : Bool → Kind → Bool
is_to_decode is_decoded (Encoded n) = not is_decoded && (n == 1 || n == 2)
is_to_decode is_decoded kind = false

-- the words that list all that is broken of a file with this fault; none, where it is outside of what they list
abbrev pub damage_text : Bool → Kind → List ℕ
damage_text is_decoded kind =
    if is_outside kind then []
    else if is_decoded then codes "; all that is broken: pst_show damage --decode"
    else codes "; all that is broken: pst_show damage"

-- what helps behind a no, without its line feed
abbrev pub help_text : Bool → Kind → List ℕ
help_text is_decoded kind =
    if is_to_decode is_decoded kind then codes "  encoded: give the command --decode"
    else (codes "  what that says and what to do: pst_show explain " ++ decimal (number_of kind)) ++ damage_text is_decoded kind

-- what a word that names something looks like
abbrev pub form_text : Lack → List ℕ
form_text Nid = codes ": a node is 0x and 1 to 8 hexadecimal digits, as folders prints them"
form_text Property = codes ": a property is 4 hexadecimal digits, as props prints them"
form_text NoKind = codes ": a kind is its number or its name, as explain prints them"
form_text Nothing = codes ": it is not known"

-- a word that names nothing, and what one looks like, without a line feed
abbrev pub word_text : Lack → List ℕ → List ℕ
word_text lack word = (codes "  " ++ word) ++ form_text lack
