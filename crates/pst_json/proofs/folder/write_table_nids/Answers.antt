use Rattle.std.proofs.Common.{rules, ◌≡◌, sym, subst}
use Rattle.std.specs.Prelude.{OnOk}
use Rattle.pst_block.specs.Block.{bid_key}
use Rattle.pst_ndb.specs.Views.{table_of_node, roots_of}
use Rattle.pst_value_json.specs.pst_tc.Tc.{node_of_tc}
use Rattle.pst_json.specs.RowIds.{all_asked, ids_asked}
use Rattle.pst_json.proofs.RowIdsLemmas.{nids_listed}
use Rattle.pst_json.proofs.folder.write_table_nids.Goals as goal

pub returns-in-Some-clause-put : goal.returns-in-Some-clause-put
returns-in-Some-clause-put g c =
    let t = table_of_node (node_of_tc c.args.table) in
    let r = roots_of (node_of_tc c.args.table) in
    let block : c.key_of-block.result ≡ bid_key r.bid_data = search rules in
    let are : c.in-Some.nids.now ≡ ids_asked all_asked t r = c.in-Some.ensures all_asked t c.requires.rows r (sym block) in
    subst (λ d. OnOk c.write_nids.result (g.P.Pen.Puts c.args.pen.now c.write_nids.new.pen d)) (nids_listed t r c.in-Some.nids.now are) c.write_nids.ensures.put
