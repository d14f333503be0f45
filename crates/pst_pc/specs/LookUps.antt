-- What the look-ups of a property context answer, in the words of the file that it is of: its grammar, its blocks, its memory.
use Rattle.std.specs.Prelude.{◌≡◌, ℕ, List, [], ◌∷◌, Option, Some, None, IfSome, option_map}
use Rattle.pst_bytes.specs.declared.Image.{Image}
use Rattle.pst_bytes.specs.declared.span.Span.{Span}
use Rattle.pst_block.specs.Table.{Table}
use Rattle.pst_btree.specs.Entries.{first_with}
use Rattle.pst_datatree.specs.Shown.{ShowsSpans}
use Rattle.pst_ndb.specs.Roots.{Roots}
use Rattle.pst_ndb.specs.Views.{image_of_node, table_of_node, roots_of}
use Rattle.pst_bth.specs.Values.{record_key}
use Rattle.pst_pc.specs.declared.pc.Pc.{Pc}
use Rattle.pst_pc.specs.declared.prop.Prop.{Prop}
use Rattle.pst_pc.specs.declared.props.Props.{Props}
use Rattle.pst_pc.specs.Grammar.{IsPc}
use Rattle.pst_pc.specs.Values.{id_of, pc_records, property_at, props_of, spans_in}
use Rattle.pst_pc.specs.View.{node_of_pc, property_of, IsPropWith}
use Rattle.pst_pc.specs.Left.{pc_left, rest_of, props_left, TakesProp}

-- ---- the clauses of the look-ups: `get` and `props`

abbrev pub GivesProp : Pc → ℕ → Option Prop → Type 0
GivesProp pc id found =
    let node = node_of_pc pc in
    (option_map property_of found ≡ first_with id_of id (props_of (table_of_node node) (roots_of node)))
    × IfSome found (IsPropWith node id)

abbrev pub GivesProps : Pc → Props → Type 0
GivesProps pc all =
    let node = node_of_pc pc in
    (props_left all ≡ props_of (table_of_node node) (roots_of node))
    × (rest_of all ≡ pc_records (table_of_node node) (roots_of node))
    × (pc_left all ≡ pc)

-- ---- what they are then

-- The property of a record of the context that these roots name: its value shows the spans of that record, as one slice of the
-- file's own memory exactly where at most one of them has bytes.
abbrev pub IsPropOf : Image → Table → Roots → ℕ × Span → Prop → Type 0
IsPropOf file t r x p = (property_of p ≡ property_at t r x) × ShowsSpans file (spans_in t r x) p.value

-- that of the record with an identifier
abbrev pub HasIdOf : Image → Table → Roots → ℕ → Prop → Type 0
HasIdOf file t r id p = (x : ℕ × Span) × (first_with record_key id (pc_records t r) ≡ Some x) × IsPropOf file t r x p

-- that of the first of the records that are left; none exactly where none is left
abbrev pub IsFirstOf : Image → Table → Roots → List (ℕ × Span) → Option Prop → List (ℕ × Span) → Type 0
IsFirstOf file t r left None rest = left ≡ []
IsFirstOf file t r left (Some p) rest = (x : ℕ × Span) × (left ≡ x ∷ rest) × IsPropOf file t r x p

pub record PcLookUps (file : Image) (t : Table) (r : Roots) (pc : Pc) : Type 0 where
  -- it is a property context by the grammar
  pub context : IsPc t r
  -- `get`: the property with an identifier, lent from the file; None exactly where the context has none
  pub get : (id : ℕ) (found : Option Prop) → GivesProp pc id found →
      (option_map property_of found ≡ first_with id_of id (props_of t r)) × IfSome found (HasIdOf file t r id)
  -- `props`: all of them, in order; and each that the iterator yields, lent from the file
  pub props : (all : Props) → GivesProps pc all →
      (props_left all ≡ props_of t r) × (rest_of all ≡ pc_records t r) × (pc_left all ≡ pc)
  pub next : (old new : Props) (taken : Option Prop) → pc_left old ≡ pc → TakesProp old taken new →
      IsFirstOf file t r (rest_of old) taken (rest_of new) × (pc_left new ≡ pc)

-- so it is of every property context
abbrev pub PcLookUpsLaw : Type 0
PcLookUpsLaw =
    (pc : Pc) → let node = node_of_pc pc in PcLookUps (image_of_node node) (table_of_node node) (roots_of node) pc
