use Rattle.std.proofs.Common.{◌≡◌, ◌++◌, List, map}
use Rattle.serde_json.specs.Data.{Data}
use Rattle.pst_value.specs.Elements.{elements_left}
use Rattle.pst_value_json.specs.Value.{single_data}
use Rattle.pst_value_json.proofs.write_values.write_values.Given as goal

-- what stands there, and the values that are left, are all
abbrev pub invariant-loop-value : goal.invariant-loop-value
invariant-loop-value g l = record {
  list : (done : List Data) × (g.P.Pen.InList l.fn.pen l.pen l.later done) × (done ++ map (single_data l.kind.0) (elements_left l.value-iterator) ≡ map (single_data l.kind.0) (elements_left l.fn.values));
  kept : (base : g.row.P.Denot) → g.P.Pen.Keeps base l.fn.pen → g.P.Pen.Keeps base l.pen;
}
