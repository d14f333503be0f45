use Rattle.std.proofs.Common.{◌≡◌, ◌++◌, List, map}
use Rattle.serde_json.specs.Data.{Data}
use Rattle.pst_ndb.specs.Views.{table_of_node, roots_of}
use Rattle.pst_pc.specs.Left.{pc_left, rest_of}
use Rattle.pst_pc.specs.Values.{pc_records}
use Rattle.pst_pc.specs.View.{node_of_pc}
use Rattle.pst_value_json.specs.Props.{record_data, names_told}
use Rattle.pst_value_json.proofs.props.write_props.Given as goal

-- what stands there, and the properties that are left, are all
abbrev pub invariant-loop-prop : goal.invariant-loop-prop
invariant-loop-prop g l =
    let node = node_of_pc l.pc in
    let t = table_of_node node in
    let r = roots_of node in
    let shown = record_data (names_told l.names) l.filed l.places t r in
    record {
      list : (done : List Data) × (g.P.Pen.InList l.fn.pen l.pen l.later done) × (done ++ map shown (rest_of l.prop-iterator) ≡ map shown (pc_records t r));
      pc : pc_left l.prop-iterator ≡ l.pc;
      kept : (base : g.row.P.Denot) → g.P.Pen.Keeps base l.fn.pen → g.P.Pen.Keeps base l.pen;
    }
