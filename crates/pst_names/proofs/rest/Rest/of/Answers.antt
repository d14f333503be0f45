use Rattle.std.proofs.Common.{[], sym, ◌∙◌, refl}
use Rattle.pst_bytes.specs.Image.{bytes_of}
use Rattle.pst_datatree.specs.Left.{spans_left}
use Rattle.pst_ndb.specs.Views.{image_of_node, table_of_node, roots_of}
use Rattle.pst_pc.specs.View.{node_of_pc}
use Rattle.pst_names.specs.Streams.{stream_spans}
use Rattle.pst_names.proofs.StreamLemmas.{whole_behind, pieces_behind, shown_bytes}
use Rattle.pst_names.proofs.rest.Rest.of.Goals as goal
use Rattle.pst_names.proofs.rest.Rest.of.Goals.{in-Whole, in-Pieces}

pub returns-clause-behind : goal.returns-clause-behind
returns-clause-behind c =
    let node = node_of_pc c.args.pc.now in
    let all = stream_spans (table_of_node node) (roots_of node) c.args.id in
    elim c.match-stream.branch [
      | in-Whole w ↦ rw w.result-is (whole_behind (image_of_node node) all w.in-Whole.at w.in-Whole.front w.in-Whole.ensures.shows)
      | in-Pieces w ↦ rw w.result-is (pieces_behind (bytes_of (image_of_node node)) all (spans_left w.in-Pieces.pieces) [] w.in-Pieces.ensures.shows.1 refl)
    ]

pub returns-clause-bytes : goal.returns-clause-bytes
returns-clause-bytes c =
    let node = node_of_pc c.args.pc.now in
    let all = stream_spans (table_of_node node) (roots_of node) c.args.id in
    sym (shown_bytes (image_of_node node) all c.stream.result c.stream.ensures.shows) ∙ c.stream.ensures.bytes
