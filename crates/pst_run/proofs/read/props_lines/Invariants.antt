use Rattle.std.proofs.Common.{◌≡◌, drop, map}
use Rattle.pst_ask.specs.Ask.{nids_of}
use Rattle.pst_json.specs.pst_intact.View.{table_of_intact, nodes_of_intact}
use Rattle.pst_json.specs.pst_whole.View.{lost_in}
use Rattle.pst_run.specs.Answer.{behind, lines_of_paths, path_read}
use Rattle.pst_run.proofs.AnswerLemmas.{lines_left}
use Rattle.pst_run.proofs.read.props_lines.Given as goal

-- the lines so far, with those of the paths that are left, are all
abbrev pub invariant-loop-path : goal.invariant-loop-path
invariant-loop-path l = let line = path_read l.places (table_of_intact l.intact) (nodes_of_intact l.intact) (lost_in l.lost) in record {
  left : lines_of_paths line (map nids_of l.paths) ≡ behind l.text.items (lines_left line (drop l.path-index l.paths));
}
