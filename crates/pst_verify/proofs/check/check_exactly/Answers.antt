use Rattle.std.proofs.lemmas.Result.{err_from_is_err_and}
use Rattle.pst_bytes.specs.Image.{bytes_of}
use Rattle.pst_ndb.specs.Views.{table_of_ndb, nodes_of}
use Rattle.pst_verify.proofs.VerifyLemmas.{database_fails, messaging_fails}
use Rattle.pst_verify.proofs.check.check_exactly.Goals as goal

pub returns-in_err-checked-clause-exact : goal.returns-in_err-checked-clause-exact
returns-in_err-checked-clause-exact c =
    let p = err_from_is_err_and c.from_residual.result c.from_residual.ensures.1 in
    rw (p.1, p.2) (database_fails c.args.bytes.now (bytes_of c.new.result) _ c.new.ensures.bytes c.in_err-checked.ensures.exact)

pub returns-in_err-check_messaging-clause-exact : goal.returns-in_err-check_messaging-clause-exact
returns-in_err-check_messaging-clause-exact c =
    let p = err_from_is_err_and c.from_residual-in_err-check_messaging.result c.from_residual-in_err-check_messaging.ensures.1 in
    let d = c.in_ok-checked.ensures in
    rw (p.1, p.2) (messaging_fails c.args.bytes.now (bytes_of c.new.result) (table_of_ndb c.in_ok-checked.checked.ndb) (nodes_of c.in_ok-checked.checked.ndb) _ c.new.ensures.bytes d.none d.checked.table d.checked.nodes c.in_err-check_messaging.ensures.exact)
