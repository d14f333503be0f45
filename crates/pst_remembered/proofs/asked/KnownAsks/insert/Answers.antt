use Rattle.std.proofs.Common.{◌≡◌, rules}
use Rattle.pst_block.specs.Block.{bid_key}
use Rattle.pst_ndb.specs.Views.{table_of_node, roots_of}
use Rattle.pst_remembered.specs.declared.asked.KnownAsks.{KnownAsks}
use Rattle.pst_remembered.specs.Roles.{role_number}
use Rattle.pst_remembered.proofs.AskedLemmas.{asks_put, asks_same}
use Rattle.pst_remembered.proofs.asked.KnownAsks.insert.Goals as goal

pub returns-in_err-_new-clause-known : goal.returns-in_err-_new-clause-known
returns-in_err-_new-clause-known c =
    let t = table_of_node c.args.node in
    asks_same t c.learn_matrix.new.self (record { asks = c.insert.new.self; matrices = c.learn_matrix.new.self.matrices; count = c.learn_matrix.new.self.count }) c.in_err-_new.ensures.err (c.learn_matrix.ensures.known t c.requires.known)

pub returns-clause-known : goal.returns-clause-known
returns-clause-known c =
    let t = table_of_node c.args.node in
    let r = roots_of c.args.node in
    let block : c.cleared-block.result ≡ bid_key r.bid_data = search rules in
    let number : c.role_number.result ≡ role_number c.args.role = search rules in
    let new : KnownAsks = record { asks = c.insert.new.self; matrices = c.learn_matrix.new.self.matrices; count = c.learn_matrix.new.self.count } in
    asks_put t c.args.role r ((c.cleared-block.result, c.in_ok-matrix.matrix), c.role_number.result) c.args.asks c.learn_matrix.new.self new (c.learn_matrix.ensures.known t c.requires.known) c.requires.holds block number c.in_ok-_new.ensures.updates.0
