use Rattle.std.proofs.Common.{arith}
use Rattle.pst_ndb.specs.Views.{table_of_node, roots_of}
use Rattle.pst_msg.proofs.RestLemmas.{next_named, none_named, all_passed}
use Rattle.pst_msg.proofs.rest.NumberedRows.next.Goals as goal

pub returns-then-self-clause-none : goal.returns-then-self-clause-none
returns-then-self-clause-none c =
    let rows = c.args.self.now in
    all_passed (table_of_node rows.table) (roots_of rows.table) rows.next rows.count rows.all (omega (arith, c.if-self.true))

pub returns-clause-some : goal.returns-clause-some
returns-clause-some c =
    let rows = c.args.self.now in
    next_named (table_of_node rows.table) (roots_of rows.table) rows.next c.in_ok-name.name (rw (c.lend.ensures.table, c.lend.ensures.roots) at c.in_ok-name.ensures.name)

pub returns-clause-none : goal.returns-clause-none
returns-clause-none c =
    let rows = c.args.self.now in
    none_named (table_of_node rows.table) (roots_of rows.table) rows.next c.in_ok-name.name (rw (c.lend.ensures.table, c.lend.ensures.roots) at c.in_ok-name.ensures.name)
