use Rattle.std.proofs.Common.{inr}
use Rattle.pst_ndb.specs.Views.{table_of_node, roots_of}
use Rattle.pst_damage.specs.Left.{left_table, left_nodes, left_pages}
use Rattle.pst_damage.specs.Rows.{as_it_is, rows_part}
use Rattle.pst_damage.proofs.FaultsLemmas.{rows_kept, rows_keep}
use Rattle.pst_damage.proofs.folder.check_all.Goals as goal

pub returns-in-Some-clause-exact : goal.returns-in-Some-clause-exact
returns-in-Some-clause-exact c =
    let t = left_table c.args.left.now in
    let nodes = left_nodes c.args.left.now in
    let broken = left_pages c.args.left.now in
    let r = roots_of c.args.table in
    inr (rows_kept t (table_of_node c.args.table) nodes broken c.args.items r c.rows_of-part.result c.args.rows.now c.in-Some.fault c.requires.table c.rows_of-part.ensures.content c.rows_of-part.ensures.items c.requires.rows c.in-Some.ensures)

pub returns-clause-rows : goal.returns-clause-rows
returns-clause-rows c =
    let t = left_table c.args.left.now in
    let nodes = left_nodes c.args.left.now in
    let broken = left_pages c.args.left.now in
    let r = roots_of c.args.table in
    c.keep.ensures.known as_it_is (rows_part t nodes broken)
    (rows_keep t (table_of_node c.args.table) nodes broken c.args.items r c.rows_of-part.result c.check_rows-answer.result c.requires.table c.rows_of-part.ensures.content c.rows_of-part.ensures.items c.check_rows-answer.ensures.exact) c.requires.rows
