use Rattle.std.proofs.Common.{rules, ◌≡◌, Some, ap, ◌∙◌}
use Rattle.std.specs.Prelude.{length}
use Rattle.std.specs.BTreeMap.{get}
use Rattle.std.specs.Ordering.{nat_cmp}
use Rattle.pst_block.specs.Block.{bid_key}
use Rattle.pst_ndb.specs.Views.{table_of_node, roots_of}
use Rattle.pst_tc.specs.Values.{tc_rows}
use Rattle.pst_remembered.proofs.RowCountLemmas.{table_known, is_count}
use Rattle.pst_remembered.proofs.row_counts.RowCounts.of.Goals as goal

pub returns-in-Some-clause-count : goal.returns-in-Some-clause-count
returns-in-Some-clause-count c =
    let n = c.args.table in
    let found : get nat_cmp c.args.self.now.tables c.cleared-block.result ≡ Some c.in-Some.count = search rules in
    let same : c.cleared-block.result ≡ bid_key (roots_of n).bid_data = search rules in
    table_known (table_of_node n) (roots_of n) c.args.self.now c.cleared-block.result c.in-Some.count c.requires.known found same

pub returns-in_err-insert-clause-known : goal.returns-in_err-insert-clause-known
returns-in_err-insert-clause-known c =
    let n = c.args.table in
    let same : c.cleared-block.result ≡ bid_key (roots_of n).bid_data = search rules in
    let count : c.row_count-count.result ≡ length (tc_rows (table_of_node n) (roots_of n)) = c.row_count-count.ensures ∙ ap (λ m. length (tc_rows (table_of_node m) (roots_of m))) c.known_tc.ensures in
    c.insert.ensures (table_of_node n) (is_count (table_of_node n) (roots_of n) c.row_count-count.result c.cleared-block.result count same) c.requires.known

pub returns-clause-known : goal.returns-clause-known
returns-clause-known c =
    let n = c.args.table in
    let same : c.cleared-block.result ≡ bid_key (roots_of n).bid_data = search rules in
    let count : c.row_count-count.result ≡ length (tc_rows (table_of_node n) (roots_of n)) = c.row_count-count.ensures ∙ ap (λ m. length (tc_rows (table_of_node m) (roots_of m))) c.known_tc.ensures in
    c.insert.ensures (table_of_node n) (is_count (table_of_node n) (roots_of n) c.row_count-count.result c.cleared-block.result count same) c.requires.known

pub returns-clause-count : goal.returns-clause-count
returns-clause-count c = c.row_count-count.ensures ∙ ap (λ m. length (tc_rows (table_of_node m) (roots_of m))) c.known_tc.ensures
