use Rattle.std.proofs.Common.{subst}
use Rattle.std.specs.Prelude.{OnOk, codes}
use Rattle.serde_json.specs.Data.{Data, Members, string, object}
use Rattle.pst_tc.specs.View.{column_of}
use Rattle.pst_value_json.specs.Cells.{Cell, cell_with, cell_value, cell_data, placed_members}
use Rattle.pst_text.specs.Names.{tag_text}
use Rattle.pst_value_json.specs.Places.{content_in, places_in}
use Rattle.pst_value_json.proofs.PenLemmas.{begun}
use Rattle.pst_value_json.proofs.CellLemmas.{cell_members, last_tag, last_value}
use Rattle.pst_value_json.specs.Pen.{and_member}
use Rattle.pst_value_json.proofs.write_cells.write_cell.Goals as goal

pub returns-clause-put : goal.returns-clause-put
unfolding cell_data
returns-clause-put g c =
    let cell : Cell = cell_with (column_of c.args.column) (content_in c.args.value.now) in
    let places = places_in c.args.value.now in
    let front : Members = placed_members c.args.places places in
    let tag : Data = string (tag_text c.args.column.tag) in
    let first = begun g.P.Pen.Puts g.P.Pen.AtKey _ _ _ front (codes "tag") tag c.in_ok-open_cell.ensures.put c.in_ok-leaf.ensures.put (last_tag c.args.places places) in
    let second = begun g.P.Pen.Puts g.P.Pen.AtKey _ _ _ (and_member front (codes "tag") tag) (codes "value") (cell_value cell) (c.in_ok-next.ensures.put _ (and_member front (codes "tag") tag) first) c.in_ok-write_cell_value.ensures.put
    (last_value c.args.places places tag) in
    subst (λ ms. OnOk c.close.result (g.P.Pen.Puts c.args.pen.now c.close.new.self (object ms))) (cell_members c.args.places places tag (cell_value cell)) (c.close.ensures.put _ _ second)
