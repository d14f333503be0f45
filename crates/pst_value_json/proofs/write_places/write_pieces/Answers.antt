use Rattle.std.proofs.Common.{◌≡◌, [], ◌∷◌, ◌++◌, map, refl, sym, ap, subst, ◌∙◌, append_assoc, append-nil, rules}
use Rattle.std.specs.Prelude.{OnOk}
use Rattle.serde_json.specs.Data.{array}
use Rattle.serde_json.specs.View.{items_of}
use Rattle.pst_bytes.specs.Image.{bytes_of}
use Rattle.pst_datatree.specs.Left.{spans_left, file_of}
use Rattle.pst_value_json.specs.Places.{piece_data}
use Rattle.pst_value_json.proofs.PlaceLemmas.{inside_more}
use Rattle.pst_value_json.proofs.write_places.write_pieces.Goals as goal

pub loop-piece-init : goal.loop-piece-init
loop-piece-init g c = record { list = ([], c.in_ok-open_list.ensures.put, refl); file = refl; inside = λ e. e; kept = c.in_ok-open_list.ensures.kept }

pub loop-piece-preserved : goal.loop-piece-preserved
loop-piece-preserved g c =
    let l = c.loop-piece.invariant in
    let d = piece_data c.in-Some.piece in
    let behind = map piece_data (spans_left c.next_span.new.self) in
    record {
      list = (
        l.list.0 ++ d ∷ [],
        c.in_ok-item.ensures.put _ _ l.list.0 d (c.in_ok-comma.ensures.put _ l.list.0 l.list.1) c.in_ok-write_piece.ensures.put,
        append_assoc l.list.0 (d ∷ []) behind ∙ ap (λ ds. l.list.0 ++ ds) (sym (ap (map piece_data) c.in-Some.ensures.steps)) ∙ l.list.2,
      );
      file = search rules;
      inside = λ e. l.inside (inside_more (bytes_of (file_of c.args.pieces)) _ c.in-Some.piece _ _ c.in-Some.ensures.steps (sym (ap bytes_of l.file)) c.in-Some.ensures.inside e);
      kept = λ base kept. c.in_ok-item.ensures.kept base (c.in_ok-write_piece.ensures.kept base (c.in_ok-comma.ensures.kept base (l.kept base kept)));
    }

pub returns-clause-put : goal.returns-clause-put
returns-clause-put g c =
    let l = c.loop-piece.invariant in
    let all : l.list.0 ≡ map piece_data (spans_left c.args.pieces) = sym (append-nil l.list.0) ∙ ap (λ ds. l.list.0 ++ map piece_data ds) (sym c.in_default.ensures.steps.0) ∙ l.list.2 in
    subst (λ ds. OnOk c.close_list.result (g.P.Pen.Puts c.args.pen.now c.close_list.new.self (array (items_of ds)))) all (c.close_list.ensures.put _ l.list.0 l.list.1)
