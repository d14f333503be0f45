use Rattle.std.proofs.Common.{◌≡◌, ◌++◌, List, length}
use Rattle.serde_json.specs.Data.{Data}
use Rattle.pst_json.specs.FolderRows.{folder_rows, folder_rows_left}
use Rattle.pst_json.proofs.folder_rows.FolderRows.write_all.Given as goal

-- what stands there, and the folders that are left, are all
abbrev pub invariant-loop-folder : goal.invariant-loop-folder
invariant-loop-folder g l = record {
  list : (done : List Data) × (g.P.Pen.InList l.fn.pen l.pen l.later done) × (done ++ folder_rows l.self ≡ folder_rows l.fn.self);
  kept : (base : g.row.P.Denot) → g.P.Pen.Keeps base l.fn.pen → g.P.Pen.Keeps base l.pen;
}

abbrev pub decreases-loop-folder : goal.decreases-loop-folder
decreases-loop-folder g l = length (folder_rows_left l.self)
