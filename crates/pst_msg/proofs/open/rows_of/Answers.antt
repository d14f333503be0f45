use Rattle.pst_ndb.specs.Views.{table_of_node}
use Rattle.pst_msg.proofs.AidLemmas.{names_turned, counts_turned}
use Rattle.pst_msg.proofs.open.rows_of.Goals as goal

pub returns-in_err-count-clause-known : goal.returns-in_err-count-clause-known
returns-in_err-count-clause-known c = names_turned (table_of_node c.args.table) c.args.known.now c.count.new.self c.requires.known (rw c.lend.ensures.table at c.count.ensures.known)

pub returns-in-Some-clause-known : goal.returns-in-Some-clause-known
returns-in-Some-clause-known c = names_turned (table_of_node c.args.table) c.args.known.now c.count.new.self c.requires.known (rw c.lend.ensures.table at c.count.ensures.known)

pub returns-in_err-most-clause-known : goal.returns-in_err-most-clause-known
returns-in_err-most-clause-known c =
    let t = table_of_node c.args.table in
    counts_turned t (record c.args.known.now { row_names = c.count.new.self }) c.of-2.new.self (names_turned t c.args.known.now c.count.new.self c.requires.known (rw c.lend.ensures.table at c.count.ensures.known)) c.of-2.ensures.known

pub returns-clause-known : goal.returns-clause-known
returns-clause-known c =
    let t = table_of_node c.args.table in
    counts_turned t (record c.args.known.now { row_names = c.count.new.self }) c.of-2.new.self (names_turned t c.args.known.now c.count.new.self c.requires.known (rw c.lend.ensures.table at c.count.ensures.known)) c.of-2.ensures.known
