use Rattle.std.proofs.Common.{ap, ◌∙◌}
use Rattle.pst_datatree.specs.Named.{named_by}
use Rattle.pst_datatree.specs.declared.found.FoundPart.{FoundPart}
use Rattle.pst_datatree.specs.Leaves.{leaves_table, leaves_tree}
use Rattle.pst_datatree.proofs.LeafLemmas.{part_found}
use Rattle.pst_datatree.proofs.leaves.Leaves.part.Goals as goal

pub returns-clause-found : goal.returns-clause-found
returns-clause-found c =
    let view = c.args.self.now in
    let found : FoundPart = record { part = c.args.part; before = c.args.before; len = c.span_count.result; named = c.sound_in-named.result } in
    part_found (leaves_table view) (leaves_tree view) found view.parts.sound c.requires.below c.requires.start
    (c.sound_in-named.ensures.value ∙ ap (named_by (leaves_table view)) c.bid.ensures) c.span_count.ensures c.sound_in-named.ensures.sound c.sound_in-named.ensures.within
