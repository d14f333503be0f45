use Rattle.std.proofs.Common.{◌≡◌, ◌++◌, List, map, drop}
use Rattle.serde_json.specs.Data.{Data}
use Rattle.pst_damage_json.specs.Faults.{fault_data}
use Rattle.pst_damage_json.proofs.lists.write_faults.Given as goal

-- what stands there, and what is left, is all
abbrev pub invariant-loop-fault : goal.invariant-loop-fault
invariant-loop-fault g l = record {
  list : (done : List Data) × (g.P.Pen.InList l.fn.pen l.pen l.later done) × (done ++ map fault_data (drop l.fault-index l.faults) ≡ map fault_data l.faults);
  kept : (base : g.row.P.Denot) → g.P.Pen.Keeps base l.fn.pen → g.P.Pen.Keeps base l.pen;
}
