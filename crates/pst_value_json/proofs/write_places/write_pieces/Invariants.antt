use Rattle.std.proofs.Common.{◌≡◌, ◌++◌, List, length, map}
use Rattle.serde_json.specs.Data.{Data}
use Rattle.pst_bytes.specs.Image.{bytes_of}
use Rattle.pst_datatree.specs.Left.{spans_left, file_of}
use Rattle.pst_value_json.specs.Places.{in_file, piece_data}
use Rattle.pst_value_json.proofs.write_places.write_pieces.Given as goal

-- what stands there, and the pieces that are left, are all; where these lie in the file, all do
abbrev pub invariant-loop-piece : goal.invariant-loop-piece
invariant-loop-piece g l =
    let I = bytes_of (file_of l.pieces) in
    record {
      list : (done : List Data) × (g.P.Pen.InList l.fn.pen l.pen l.later done) × (done ++ map piece_data (spans_left l.rest) ≡ map piece_data (spans_left l.pieces));
      file : file_of l.rest ≡ file_of l.pieces;
      inside : map (in_file I) (spans_left l.rest) ≡ spans_left l.rest → map (in_file I) (spans_left l.pieces) ≡ spans_left l.pieces;
      kept : (base : g.row.P.Denot) → g.P.Pen.Keeps base l.fn.pen → g.P.Pen.Keeps base l.pen;
    }

-- one piece less is left
abbrev pub decreases-loop-piece : goal.decreases-loop-piece
decreases-loop-piece g l = length (spans_left l.rest)
