use Rattle.std.proofs.Common.{◌≡◌, ◌++◌, List, map, drop}
use Rattle.serde_json.specs.Data.{Data}
use Rattle.pst_json.specs.Check.{lost_data}
use Rattle.pst_json.proofs.check.write_runs.Given as goal

-- what stands there, and what is left, is all
abbrev pub invariant-loop-lost : goal.invariant-loop-lost
invariant-loop-lost g l = record {
  list : (done : List Data) × (g.P.Pen.InList l.fn.pen l.pen l.later done) × (done ++ map lost_data (drop l.lost-index l.runs) ≡ map lost_data l.runs);
  kept : (base : g.row.P.Denot) → g.P.Pen.Keeps base l.fn.pen → g.P.Pen.Keeps base l.pen;
}
