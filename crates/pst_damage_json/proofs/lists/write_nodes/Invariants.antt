use Rattle.std.proofs.Common.{◌≡◌, ◌++◌, List, map, drop}
use Rattle.serde_json.specs.Data.{Data}
use Rattle.pst_damage_json.specs.Damage.{broken_data}
use Rattle.pst_damage_json.proofs.lists.write_nodes.Given as goal

-- what stands there, and what is left, is all
abbrev pub invariant-loop-broken : goal.invariant-loop-broken
invariant-loop-broken g l = record {
  list : (done : List Data) × (g.P.Pen.InList l.fn.pen l.pen l.later done) × (done ++ map broken_data (drop l.broken-index l.nodes) ≡ map broken_data l.nodes);
  kept : (base : g.row.P.Denot) → g.P.Pen.Keeps base l.fn.pen → g.P.Pen.Keeps base l.pen;
}
