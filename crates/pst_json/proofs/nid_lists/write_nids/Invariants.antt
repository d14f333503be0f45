use Rattle.std.proofs.Common.{◌≡◌, ◌++◌, List, map, drop}
use Rattle.serde_json.specs.Data.{Data}
use Rattle.pst_value_json.specs.pst_text.Names.{nid_data}
use Rattle.pst_json.proofs.nid_lists.write_nids.Given as goal

-- what stands there, and what is left, is all
abbrev pub invariant-loop-nid : goal.invariant-loop-nid
invariant-loop-nid g l = record {
  list : (done : List Data) × (g.P.Pen.InList l.fn.pen l.pen l.later done) × (done ++ map nid_data (drop l.nid-index l.nids) ≡ map nid_data l.nids);
  kept : (base : g.row.P.Denot) → g.P.Pen.Keeps base l.fn.pen → g.P.Pen.Keeps base l.pen;
}
