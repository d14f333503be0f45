use Rattle.std.proofs.Common.{refl, sym, ◌∙◌}
use Rattle.pst_ndb.specs.Views.{table_of_node, roots_of}
use Rattle.pst_damage.specs.Left.{left_table, left_nodes, left_pages}
use Rattle.pst_damage.proofs.ListingsLemmas.{rows_known}
use Rattle.pst_damage.proofs.folder.check_rows.Goals as goal

pub returns-then-has-clause-exact : goal.returns-then-has-clause-exact
returns-then-has-clause-exact c =
    (rows_known (left_table c.args.left.now) (table_of_node c.args.table) (left_nodes c.args.left.now) (left_pages c.args.left.now) c.args.items (roots_of c.args.table) c.args.listings.now c.requires.table c.requires.listings (sym c.has.ensures ∙ c.if-has.true), refl)
