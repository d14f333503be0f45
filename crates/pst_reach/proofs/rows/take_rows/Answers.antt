use Rattle.std.proofs.Common.{[], ◌∷◌, subst}
use Rattle.std.specs.List.{filter}
use Rattle.pst_tc.specs.View.{row_parts}
use Rattle.pst_intact.specs.View.{nodes_of_intact}
use Rattle.pst_reach.specs.Levels.{steps_named}
use Rattle.pst_reach.specs.Reach.{is_folder_among}
use Rattle.pst_reach.specs.Search.{Takes}
use Rattle.pst_reach.proofs.SearchLemmas.{one_named, took_more}
use Rattle.pst_reach.proofs.rows.take_rows.Goals as goal

pub loop-row-preserved : goal.loop-row-preserved
loop-row-preserved c =
    let nodes = nodes_of_intact c.args.intact.now in
    let first = one_named nodes c.args.parent (row_parts c.in-Some.row) _ _ c.in-Some.ensures.steps.0 in
    let takes = subst (λ i. Takes c.args.depth (steps_named c.args.parent (filter (is_folder_among nodes) (i ∷ []))) c.loop-row.found c.loop-row.next c.take_row.new.found c.take_row.new.next) c.id-nid.ensures c.in_ok-take_row.ensures.takes in
    record {
      took = took_more c.args.depth _ _ _ _ _ _ _ _ _ _ first c.loop-row.invariant.took takes;
      keeps = λ nid known. c.take_row.ensures.keeps nid (c.loop-row.invariant.keeps nid known);
    }
