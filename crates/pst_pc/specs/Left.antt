-- What an iterator over the properties of a property context has left.
use Rattle.std.specs.Prelude.{◌≡◌, ℕ, List, [], ◌∷◌, Option, Some, None, map}
use Rattle.std.specs.Iterator.{YieldsFirstBy}
use Rattle.pst_bytes.specs.declared.span.Span.{Span}
use Rattle.pst_ndb.specs.Views.{table_of_node, roots_of}
use Rattle.pst_bth.specs.Left.{records_left}
use Rattle.pst_pc.specs.declared.pc.Pc.{Pc}
use Rattle.pst_pc.specs.declared.prop.Prop.{Prop}
use Rattle.pst_pc.specs.declared.props.Props.{Props}
use Rattle.pst_pc.specs.View.{node_of_pc, property_of, IsPropAt}
use Rattle.pst_pc.specs.Values.{Property, property_at}

-- the property context
abbrev pub pc_left : Props → Pc
pc_left p = p.pc

-- the records that are left, and their properties
abbrev pub rest_of : Props → List (ℕ × Span)
rest_of p = records_left p.rest

abbrev pub props_left : Props → List Property
props_left p = let node = node_of_pc (pc_left p) in map (property_at (table_of_node node) (roots_of node)) (rest_of p)

-- the property of the first record that is left is taken; none exactly where none is left
abbrev pub LendsProp : Props → Option Prop → Props → Type 0
LendsProp old None new = rest_of old ≡ []
LendsProp old (Some p) new = (x : ℕ × Span) × (rest_of old ≡ x ∷ rest_of new) × IsPropAt (node_of_pc (pc_left old)) x p

abbrev pub TakesProp : Props → Option Prop → Props → Type 0
TakesProp old taken new =
    YieldsFirstBy property_of props_left old taken new × LendsProp old taken new × (pc_left new ≡ pc_left old)
