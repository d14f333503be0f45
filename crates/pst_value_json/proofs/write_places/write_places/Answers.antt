use Rattle.pst_value_json.specs.Places.{places_data}
use Rattle.pst_value_json.proofs.PlaceLemmas.{slice_shown, pieces_shown}
use Rattle.pst_value_json.proofs.write_places.write_places.Goals as goal

pub returns-in-Whole-clause-put : goal.returns-in-Whole-clause-put
returns-in-Whole-clause-put g c =
    slice_shown c.write_slice.result (λ l. g.P.Pen.Puts c.args.pen.now c.write_slice.new.pen (places_data l)) c.args.value.now _ c.in-Whole.at c.in-Whole.slice c.with_bytes.ensures.shown c.in-Whole.is c.write_slice.ensures.put

pub returns-in-Pieces-clause-put : goal.returns-in-Pieces-clause-put
returns-in-Pieces-clause-put g c =
    pieces_shown c.write_pieces.result (λ l. g.P.Pen.Puts c.args.pen.now c.write_pieces.new.pen (places_data l)) c.args.value.now _ c.in-Pieces.pieces c.with_bytes.ensures.shown c.in-Pieces.is c.write_pieces.ensures.put
    c.write_pieces.ensures.inside
