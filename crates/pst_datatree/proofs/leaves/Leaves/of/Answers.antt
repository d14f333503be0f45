use Rattle.pst_datatree.specs.Marks.{start_of}
use Rattle.pst_datatree.specs.PartsView.{table_of_parts, tree_of_parts}
use Rattle.pst_datatree.proofs.LeafLemmas.{none_found}
use Rattle.pst_datatree.proofs.leaves.Leaves.of.Goals as goal

pub invariant_of-result : goal.invariant_of-result
invariant_of-result c =
    let t = table_of_parts c.of.result in
    let bid = tree_of_parts c.of.result in
    record { is_found = none_found t bid; are_marks = c.none.ensures (start_of t bid) }
