-- What the look-ups of a property context answer.
use Rattle.std.proofs.Common.{ℕ, List, Option, Some, None, ◌∙◌, subst}
use Rattle.pst_bytes.specs.declared.span.Span.{Span}
use Rattle.pst_ndb.specs.Views.{image_of_node, table_of_node, roots_of}
use Rattle.pst_pc.specs.declared.pc.Pc.{Pc}
use Rattle.pst_pc.specs.declared.prop.Prop.{Prop}
use Rattle.pst_pc.specs.declared.props.Props.{Props}
use Rattle.pst_pc.specs.View.{node_of_pc}
use Rattle.pst_pc.specs.Left.{pc_left, rest_of, LendsProp}
use Rattle.pst_pc.specs.LookUps.{IsFirstOf, PcLookUpsLaw}
use Rattle.pst_pc.proofs.PcLaws.{none_pc}

-- what an iterator yields, of the node of its context
abbrev IsFirstAt : Pc → List (ℕ × Span) → Option Prop → List (ℕ × Span) → Type 0
IsFirstAt pc left taken rest = let node = node_of_pc pc in IsFirstOf (image_of_node node) (table_of_node node) (roots_of node) left taken rest

lent_first : (old new : Props) (taken : Option Prop) → LendsProp old taken new → IsFirstAt (pc_left old) (rest_of old) taken (rest_of new)
lent_first old new None is = is
lent_first old new (Some p) is = is

pub look_ups_law : PcLookUpsLaw
look_ups_law pc = record {
  context = none_pc (table_of_node (node_of_pc pc)) (roots_of (node_of_pc pc)) pc.sound;
  get = λ id found is. is;
  props = λ all is. is;
  next = λ old new taken own is. (subst (λ p. IsFirstAt p (rest_of old) taken (rest_of new)) own (lent_first old new taken is.1), is.2 ∙ own);
}
