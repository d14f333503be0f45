use Rattle.std.proofs.Common.{rules, ◌≡◌, ◌∙◌, map, sym}
use Rattle.pst_block.specs.Block.{bid_key}
use Rattle.pst_ndb.specs.Views.{table_of_node, roots_of}
use Rattle.pst_intact.specs.View.{nodes_of_intact}
use Rattle.pst_value_json.specs.pst_tc.Tc.{node_of_tc}
use Rattle.pst_value_json.specs.pst_tc.Values.{row_id_of, tc_rows}
use Rattle.pst_json.specs.Listings.{folders_listing, has_message}
use Rattle.pst_json.specs.RowIds.{ids_asked}
use Rattle.pst_json.proofs.ListingLemmas.{ids_rise, noted_so, noted_there}
use Rattle.pst_json.proofs.RowIdsLemmas.{are_ids}
use Rattle.pst_json.proofs.listings.Listings.note_table.Goals as goal

pub note_all-requires : goal.note_all-requires
note_all-requires c =
    let t = table_of_node (node_of_tc c.args.table) in
    let r = roots_of (node_of_tc c.args.table) in
    let asked = has_message (nodes_of_intact c.args.intact.now) in
    let block : c.key_of-block.result ≡ bid_key r.bid_data = search rules in
    let are : c.in-Some.messages.now ≡ ids_asked asked t r = c.in-Some.ensures asked t c.requires.rows r (sym block) in
    rw are (ids_rise asked 0 (map row_id_of (tc_rows t r)) (c.tc_ids_rise.ensures t r c.is_sound.ensures.sound))

pub returns-in-Some-clause-noted : goal.returns-in-Some-clause-noted
returns-in-Some-clause-noted c =
    let t = table_of_node (node_of_tc c.args.table) in
    let r = roots_of (node_of_tc c.args.table) in
    let asked = has_message (nodes_of_intact c.args.intact.now) in
    let block : c.key_of-block.result ≡ bid_key r.bid_data = search rules in
    let are : c.in-Some.messages.now ≡ ids_asked asked t r = c.in-Some.ensures asked t c.requires.rows r (sym block) in
    noted_there c.note_all.result asked (tc_rows t r) c.in-Some.messages.now c.args.folder (folders_listing c.args.self.now) (folders_listing c.note_all.new.self) are c.note_all.ensures

pub returns-clause-rows : goal.returns-clause-rows
returns-clause-rows c =
    let t = table_of_node (node_of_tc c.args.table) in
    let r = roots_of (node_of_tc c.args.table) in
    let asked = has_message (nodes_of_intact c.args.intact.now) in
    let block : c.key_of-block.result ≡ bid_key r.bid_data = search rules in
    let are : c.in_ok-messages.messages.items ≡ ids_asked asked t r = rw (c.lend_tc-table.ensures.table, c.lend_tc-table.ensures.roots) at c.in_ok-messages.ensures in
    c.insert.ensures asked t (are_ids c.tc_is_of_keys.ensures asked t r c.key_of-block.result c.in_ok-messages.messages.items block are) (c.meet.ensures asked t c.requires.rows)

pub returns-clause-noted : goal.returns-clause-noted
returns-clause-noted c =
    let t = table_of_node (node_of_tc c.args.table) in
    let r = roots_of (node_of_tc c.args.table) in
    let asked = has_message (nodes_of_intact c.args.intact.now) in
    let are : c.in_ok-messages.messages.items ≡ ids_asked asked t r = rw (c.lend_tc-table.ensures.table, c.lend_tc-table.ensures.roots) at c.in_ok-messages.ensures in
    noted_so c.insert.result asked (tc_rows t r) c.deref.result.now c.args.folder (folders_listing c.args.self.now) (folders_listing c.note_all-2.new.self) (c.deref.ensures.value ∙ are) c.in_ok-note_all.ensures
