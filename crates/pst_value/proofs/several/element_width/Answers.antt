use Rattle.std.proofs.Common.{◌≡◌}
use Rattle.pst_value.specs.declared.type_row.Several.TheVariants.{Wide}
use Rattle.pst_value.specs.Class.{type_row}
use Rattle.pst_value.proofs.TypeLemmas.{width_bounds}
use Rattle.pst_value.proofs.several.element_width.Goals as goal

pub returns-in-Wide-clause-some : goal.returns-in-Wide-clause-some
returns-in-Wide-clause-some c =
    let is : (type_row c.args.kind.0).several ≡ Wide c.in-Wide.width = cc (c.in-Wide.is, c.row.ensures) in
    width_bounds c.args.kind.0 c.in-Wide.width is
