use Rattle.pst_ndb.specs.Views.{table_of_node, roots_of}
use Rattle.pst_tc.specs.Tc.{node_of_tc}
use Rattle.pst_tc.specs.Values.{tc_cell}
use Rattle.pst_tc.specs.View.{column_of}
use Rattle.pst_tc.proofs.RowLemmas.{body_info, first_place, first_inside, first_good, first_sound}
use Rattle.pst_tc.proofs.row.Row.cell_in.Goals as goal

pub cell_at-requires-clause-column : goal.cell_at-requires-clause-column
cell_at-requires-clause-column c =
    let front = c.args.self.now.front in
    let t = table_of_node (node_of_tc front.tc) in
    let r = roots_of (node_of_tc front.tc) in
    first_inside t r front.item (column_of c.args.column) c.is_sound.ensures.is c.requires c.is_sound.ensures.inside (body_info t r front.item c.is_sound.ensures.sound)

pub cell_at-requires-clause-good : goal.cell_at-requires-clause-good
cell_at-requires-clause-good c =
    let front = c.args.self.now.front in
    let t = table_of_node (node_of_tc front.tc) in
    let r = roots_of (node_of_tc front.tc) in
    first_good t r front.item (column_of c.args.column) c.is_sound.ensures.is c.requires (body_info t r front.item c.is_sound.ensures.sound)

pub cell_at-requires-clause-sound : goal.cell_at-requires-clause-sound
cell_at-requires-clause-sound c =
    let front = c.args.self.now.front in
    let t = table_of_node (node_of_tc front.tc) in
    let r = roots_of (node_of_tc front.tc) in
    first_sound t r front.item c.args.self.now.place.at (column_of c.args.column) c.is_sound.ensures.is c.requires c.args.self.now.sound

pub returns : goal.returns
unfolding tc_cell
returns c =
    let front = c.args.self.now.front in
    let first = first_place (table_of_node (node_of_tc front.tc)) (roots_of (node_of_tc front.tc)) (column_of c.args.column) c.requires in
    rw first c.cell_at.ensures
