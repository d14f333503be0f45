use Rattle.std.proofs.Common.{sym, ◌∙◌}
use Rattle.pst_intact.specs.View.{nodes_of_intact}
use Rattle.pst_reach.proofs.FolderLemmas.{row_known, row_new, row_passed}
use Rattle.pst_reach.proofs.SearchLemmas.{row_put}
use Rattle.pst_reach.proofs.rows.take_row.Goals as goal

pub returns-clause-takes : goal.returns-clause-takes
returns-clause-takes c =
    row_new (nodes_of_intact c.args.intact.now) c.args.found.now c.insert.new.self c.args.next.now c.insert-2.new.self c.args.row (sym c.is_there.ensures ∙ c.if-not-is_there.false)
    (row_put c.args.found.now c.insert.new.self c.args.next.now c.insert-2.new.self c.args.row (sym c.contains_key.ensures ∙ c.if-contains_key.false) c.in_ok-_none.ensures.updates.0 c.in_ok-_new.ensures.updates.0)

pub returns-then-contains_key-clause-takes : goal.returns-then-contains_key-clause-takes
returns-then-contains_key-clause-takes c = row_known (nodes_of_intact c.args.intact.now) c.args.found.now c.args.next.now c.args.row (sym c.contains_key.ensures ∙ c.if-contains_key.true)

pub returns-then-not-is_there-clause-takes : goal.returns-then-not-is_there-clause-takes
returns-then-not-is_there-clause-takes c = row_passed c.args.row.depth c.args.row.parent c.args.row.nid (nodes_of_intact c.args.intact.now) c.args.found.now c.args.next.now (sym c.is_there.ensures ∙ c.if-not-is_there.true)
