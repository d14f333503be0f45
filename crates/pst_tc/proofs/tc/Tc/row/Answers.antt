use Rattle.std.proofs.Common.{◌≡◌, Some, None, sym, ap, ◌∙◌}
use Rattle.std.specs.Prelude.{option_map}
use Rattle.pst_btree.specs.Entries.{first_with}
use Rattle.pst_ndb.specs.Views.{table_of_node, roots_of}
use Rattle.pst_bth.specs.Values.{record_key, record_span}
use Rattle.pst_tc.specs.Values.{info_of, tc_records, row_parts_at}
use Rattle.pst_tc.specs.View.{row_parts}
use Rattle.pst_tc.specs.Tc.{node_of_tc}
use Rattle.pst_tc.proofs.RowLemmas.{found_sound, found_row, found_nothing}
use Rattle.pst_tc.proofs.tc.Tc.row.Goals as goal

pub returns-in_default-clause-value : goal.returns-in_default-clause-value
returns-in_default-clause-value c =
    let t = table_of_node (node_of_tc c.args.self.now) in
    let r = roots_of (node_of_tc c.args.self.now) in
    let found : None ≡ option_map record_span (first_with record_key c.args.id (tc_records t r (info_of t r))) = rw (c.index.ensures.records, c.is_sound.ensures.is, c.of-front.ensures) at c.in_default.ensures.value in
    sym (found_nothing t r c.args.id found)

pub row-requires-clause-sound : goal.row-requires-clause-sound
row-requires-clause-sound c =
    let t = table_of_node (node_of_tc c.args.self.now) in
    let r = roots_of (node_of_tc c.args.self.now) in
    let s = c.of-front.result.item in
    let found : Some c.in-Some.number ≡ option_map record_span (first_with record_key c.args.id (tc_records t r s)) = rw (c.index.ensures.records, c.of-front.ensures) at c.in-Some.ensures.value in
    rw (c.grid-grid.ensures, c.of-front.ensures) (found_sound t r s c.args.id c.in-Some.number (rw c.of-front.ensures at c.is_sound.ensures.sound) found)

pub returns-clause-value : goal.returns-clause-value
returns-clause-value c =
    let t = table_of_node (node_of_tc c.args.self.now) in
    let r = roots_of (node_of_tc c.args.self.now) in
    let found : Some c.in-Some.number ≡ option_map record_span (first_with record_key c.args.id (tc_records t r (info_of t r))) = rw (c.index.ensures.records, c.is_sound.ensures.is, c.of-front.ensures) at c.in-Some.ensures.value in
    let row : row_parts c.row.result ≡ row_parts_at t r (c.args.id, c.in-Some.number) = rw (c.grid-grid.ensures, c.of-front.ensures) at c.row.ensures.row in
    ap Some row ∙ sym (found_row t r c.args.id c.in-Some.number found)
