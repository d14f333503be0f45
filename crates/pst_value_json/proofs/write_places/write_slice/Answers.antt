use Rattle.std.proofs.Common.{◌<◌, [], ◌∷◌, length, sym, subst, rules}
use Rattle.std.specs.Prelude.{OnOk}
use Rattle.pst_bytes.specs.declared.span.Span.{Span}
use Rattle.pst_value_json.specs.Places.{piece_data, places_data}
use Rattle.pst_value_json.proofs.PlaceLemmas.{one_slice}
use Rattle.pst_value_json.proofs.write_places.write_slice.Goals as goal

pub returns-clause-put : goal.returns-clause-put
returns-clause-put g c =
    let whole : Span = record { at = c.args.at; len = length c.args.slice.now } in
    let some : 0 < length c.args.slice.now = search rules in
    subst (λ l. OnOk c.close_list-2.result (g.P.Pen.Puts c.args.pen.now c.close_list-2.new.self (places_data l))) (sym (one_slice c.args.at (length c.args.slice.now) some))
    (c.close_list-2.ensures.put _ (piece_data whole ∷ []) (c.in_ok-item.ensures.put _ _ [] (piece_data whole) (c.in_ok-comma.ensures.put _ [] c.in_ok-open_list.ensures.put) c.in_ok-write_piece.ensures.put))
