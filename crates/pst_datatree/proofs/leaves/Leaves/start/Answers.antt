use Rattle.pst_datatree.specs.Leaves.{leaves_table, leaves_tree}
use Rattle.pst_datatree.specs.Marks.{start_of}
use Rattle.pst_datatree.proofs.LeafLemmas.{start_of_first}
use Rattle.pst_datatree.proofs.leaves.Leaves.start.Goals as goal

pub returns-clause-start : goal.returns-clause-start
returns-clause-start c =
    let view = c.args.self.now in
    let t = leaves_table view in
    let bid = leaves_tree view in
    c.last-part.ensures.start (start_of t bid) (start_of_first t bid) view.are_marks
