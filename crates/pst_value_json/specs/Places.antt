-- Where the pieces of a value lie in the file.
use Rattle.std.specs.Prelude.{ℕ, Bool, true, false, Option, Some, None, List, [], ◌∷◌, map, length}
use Rattle.serde_json.specs.Data.{Data, array, Members, member}
use Rattle.serde_json.specs.View.{items_of}
use Rattle.pst_bytes.specs.declared.span.Span.{Span}
use Rattle.pst_bytes.specs.Image.{bytes_of, bytes_at}
use Rattle.pst_datatree.specs.declared.value_view.Value.{Value}
use Rattle.pst_datatree.specs.declared.value_view.Value.TheVariants.{Whole, Pieces}
use Rattle.pst_datatree.specs.Left.{spans_left, file_of}
use Rattle.pst_datatree.specs.Shown.{bytes_in}
use Rattle.pst_datatree.specs.Spans.{nonempty, joined_bytes}
use Rattle.pst_text.specs.Parts.{natural, list_data}

-- ---- the pieces of a value, in order, without those that have no byte

-- a span, as far as it lies in the file
abbrev pub in_file : List ℕ → Span → Span
in_file I s = record { at = s.at; len = length (bytes_at I s) }

-- of the value of these spans of a file
abbrev pub places_of : List ℕ → List Span → List Span
places_of I spans = nonempty (map (in_file I) spans)

-- of a value that is lent
abbrev pub places_in : Value → List Span
places_in (Whole at slice) = nonempty (record { at = at; len = length slice.now } ∷ [])
places_in (Pieces p) = places_of (bytes_of (file_of p)) (spans_left p)

-- ---- what is told of a value: its bytes, and the pieces that they are

pub record Content : Type 0 where
  pub bytes : List ℕ
  pub places : List Span

abbrev pub joined_content : List ℕ → List Span → Content
joined_content I spans = record { bytes = joined_bytes I spans; places = places_of I spans }

abbrev pub content_in : Value → Content
content_in v = record { bytes = bytes_in v; places = places_in v }

-- ---- the places as a list: of each piece where it begins, and how long it is

abbrev pub piece_data : Span → Data
piece_data s = array (items_of (natural s.at ∷ natural s.len ∷ []))

abbrev pub places_data : List Span → Data
places_data places = list_data piece_data places

-- what is there only where it is asked for
abbrev pub if_asked : {X : Type 0} → Bool → X → Option X
if_asked true x = Some x
if_asked false x = None

-- a member that may be there, before others
abbrev pub member_if : List ℕ → Option Data → Members → Members
member_if key None others = others
member_if key (Some d) others = member key d others
