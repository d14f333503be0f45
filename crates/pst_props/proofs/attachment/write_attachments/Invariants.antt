use Rattle.std.proofs.Common.{◌≡◌, ◌++◌, List, map}
use Rattle.serde_json.specs.Data.{Data}
use Rattle.pst_ndb.specs.NodeIndexes.{AreNodeIndexes}
use Rattle.pst_ndb.specs.Views.{table_of_node, roots_of}
use Rattle.pst_value_json.specs.Props.{names_told}
use Rattle.pst_verify.specs.pst_msg.Shown.{row_shown, attachment_rows}
use Rattle.pst_verify.specs.pst_msg.View.{attachments_left, holder_left, node_of_message}
use Rattle.pst_props.specs.Node.{listed_data}
use Rattle.pst_props.proofs.attachment.write_attachments.Given as goal

-- what stands there, and the attachments that are left, are all
abbrev pub invariant-loop-attachment : goal.invariant-loop-attachment
invariant-loop-attachment g l =
    let node = node_of_message l.fn.message in
    let t = table_of_node node in
    let r = roots_of node in
    let shown = listed_data (names_told l.names) l.files l.places t in
    record {
      list : (done : List Data) × (g.P.Pen.InList l.fn.pen l.pen l.later done)
          × (done ++ map shown (attachments_left l.attachment-iterator) ≡ map shown (map (row_shown t r) (attachment_rows t r)));
      holder : holder_left l.attachment-iterator ≡ node;
      known : AreNodeIndexes t l.index;
      kept : (base : g.row.P.Denot) → g.P.Pen.Keeps base l.fn.pen → g.P.Pen.Keeps base l.pen;
    }
