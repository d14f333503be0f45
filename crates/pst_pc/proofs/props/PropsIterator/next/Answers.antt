use Rattle.std.proofs.Common.{◌≡◌, ◌∙◌, ℕ, ◌-◌, sym, subst, refl}
use Rattle.pst_bytes.specs.declared.span.Span.{Span}
use Rattle.pst_ndb.specs.Views.{table_of_node, roots_of}
use Rattle.pst_pc.specs.View.{node_of_pc}
use Rattle.pst_pc.proofs.PcLemmas.{first_sound}
use Rattle.pst_pc.proofs.props.PropsIterator.next.Goals as goal

pub prop-requires-clause-sound : goal.prop-requires-clause-sound
prop-requires-clause-sound c =
    let node = node_of_pc c.args.self.now.pc in
    let x : ℕ × Span = (c.in_ok-content.field-0-0, c.in_ok-content.content) in
    first_sound (table_of_node node) (roots_of node) _ _ x c.number16-id.result c.args.self.now.sound c.in_ok-content.ensures.steps.0
