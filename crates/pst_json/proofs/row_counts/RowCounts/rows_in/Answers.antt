use Rattle.std.proofs.Common.{rules, ◌≡◌, Some}
use Rattle.std.specs.BTreeMap.{get}
use Rattle.std.specs.Ordering.{nat_cmp}
use Rattle.pst_block.specs.Block.{bid_key}
use Rattle.pst_ndb.specs.Views.{table_of_node, roots_of}
use Rattle.pst_value_json.specs.pst_tc.Tc.{node_of_tc}
use Rattle.pst_json.proofs.RowCountLemmas.{table_known, is_count}
use Rattle.pst_json.proofs.row_counts.RowCounts.rows_in.Goals as goal

pub returns-in-Some-clause-count : goal.returns-in-Some-clause-count
returns-in-Some-clause-count c =
    let n = node_of_tc c.args.table in
    let found : get nat_cmp c.args.self.now.tables c.key_of-block.result ≡ Some c.in-Some.count = search rules in
    let same : c.key_of-block.result ≡ bid_key (roots_of n).bid_data = search rules in
    table_known (table_of_node n) (roots_of n) c.args.self.now c.key_of-block.result c.in-Some.count c.requires found same

pub returns-in_err-put_table-clause-known : goal.returns-in_err-put_table-clause-known
returns-in_err-put_table-clause-known c =
    let n = node_of_tc c.args.table in
    let same : c.key_of-block.result ≡ bid_key (roots_of n).bid_data = search rules in
    c.put_table.ensures (table_of_node n) (is_count c.tc_is_of_keys.ensures (table_of_node n) (roots_of n) c.in_ok-count.count c.key_of-block.result c.in_ok-count.ensures same) c.requires

pub returns-clause-known : goal.returns-clause-known
returns-clause-known c =
    let n = node_of_tc c.args.table in
    let same : c.key_of-block.result ≡ bid_key (roots_of n).bid_data = search rules in
    c.put_table.ensures (table_of_node n) (is_count c.tc_is_of_keys.ensures (table_of_node n) (roots_of n) c.in_ok-count.count c.key_of-block.result c.in_ok-count.ensures same) c.requires
