use Rattle.std.proofs.Common.{◌≡◌, refl, rules}
use Rattle.pst_ndb.specs.Views.{table_of_node, roots_of}
use Rattle.pst_remembered.proofs.RowNameLemmas.{names_kept, names_put, are_names}
use Rattle.pst_remembered.proofs.row_names.RowNames.insert.Goals as goal

pub returns-in_err-_before : goal.returns-in_err-_before
returns-in_err-_before c = names_kept (table_of_node c.args.table) c.args.self.now _ c.in_err-_before.ensures.err c.requires.known

pub returns : goal.returns
returns c =
    let t = table_of_node c.args.table in
    let r = roots_of c.args.table in
    names_put t c.args.self.now _ c.block_of.result c.args.names c.in_ok-_before.ensures.updates.0 (are_names t r c.block_of.result c.args.names.items c.block_of.ensures c.requires.names) c.requires.known
