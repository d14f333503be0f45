use Rattle.std.proofs.Common.{rules, map, ap, sym, ◌∙◌, Ok, ℕ}
use Rattle.std.specs.Global.{Vec}
use Rattle.pst_ask.specs.Ask.{nids_of}
use Rattle.pst_json.specs.pst_intact.View.{table_of_intact, nodes_of_intact}
use Rattle.pst_json.specs.pst_whole.View.{lost_in}
use Rattle.pst_run.specs.Answer.{lines_of_paths, path_read}
use Rattle.pst_run.proofs.AnswerLemmas.{line_refused, lines_end}
use Rattle.pst_run.proofs.read.props_lines.Goals as goal

pub returns-in-Err : goal.returns-in-Err
returns-in-Err c =
    let intact = c.args.intact.now in
    let line = path_read c.args.places (table_of_intact intact) (nodes_of_intact intact) (lost_in c.args.lost.now) in
    let paths = c.args.paths.now in
    line_refused (λ (t : Vec ℕ). t.items) line paths c.loop-path.path-index c.path-item.result c.deref.result.now c.deref-in-Err.result.now c.loop-path.text.items c.in-Err.fault c.of_document.result
    (lines_of_paths line (map nids_of paths)) (search rules) (search rules) (search rules) c.in-Err.ensures c.of_document.ensures c.loop-path.invariant.left

pub returns : goal.returns
returns c =
    let intact = c.args.intact.now in
    let line = path_read c.args.places (table_of_intact intact) (nodes_of_intact intact) (lost_in c.args.lost.now) in
    let paths = c.args.paths.now in
    lines_end line paths c.loop-path.path-index c.loop-path.text.items (lines_of_paths line (map nids_of paths)) (search rules) c.loop-path.invariant.left ∙ ap Ok (sym c.made.ensures)
