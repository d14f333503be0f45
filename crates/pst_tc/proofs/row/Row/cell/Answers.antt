use Rattle.std.proofs.Common.{◌≡◌, Some, sym}
use Rattle.pst_btree.specs.Entries.{first_with}
use Rattle.pst_ndb.specs.Views.{table_of_node, roots_of}
use Rattle.pst_tc.specs.Info.{column_tag, column_places}
use Rattle.pst_tc.specs.Tc.{node_of_tc}
use Rattle.pst_tc.proofs.RowLemmas.{found_cell}
use Rattle.pst_tc.proofs.row.Row.cell.Goals as goal

pub cell_at-requires-clause-sound : goal.cell_at-requires-clause-sound
cell_at-requires-clause-sound c =
    let t = table_of_node (node_of_tc c.args.self.now.front.tc) in
    let r = roots_of (node_of_tc c.args.self.now.front.tc) in
    let found : Some c.in-Some.column ≡ first_with (column_tag t.image) c.args.tag (column_places t.image c.args.self.now.front.item) = rw (c.image-image.ensures.bytes, c.item.ensures) at c.in-Some.ensures.value in
    found_cell t r c.args.self.now.front.item c.args.self.now.place.at c.args.tag c.in-Some.column c.args.self.now.sound (sym found)
