use Rattle.std.proofs.Common.{◌++◌, arith}
use Rattle.std.proofs.KnownBytes.{Appends-trans}
use Rattle.pst_intact.specs.View.{table_of_intact, nodes_of_intact}
use Rattle.pst_json.specs.pst_whole.View.{lost_in}
use Rattle.pst_json.proofs.OutputLemmas.{front_behind, front_of_all, front_of_more}
use Rattle.pst_tar.specs.Archive.{end_text, members_text}
use Rattle.pst_export.specs.Export.{text_of_damage}
use Rattle.pst_export.specs.Store.{all_files}
use Rattle.pst_export.proofs.StorableLaws.{read_back_law}
use Rattle.pst_export.proofs.emit.emit_export.Goals as goal

pub returns-in_err-write_files-clause-front : goal.returns-in_err-write_files-clause-front
returns-in_err-write_files-clause-front g c =
    let e = c.args.export.now in
    let text = members_text 0 (all_files (text_of_damage e) (table_of_intact e.intact) (nodes_of_intact e.intact) (lost_in e.lost)) in
    front_of_more _ _ text end_text c.in_err-write_files.ensures.front

pub returns-in_err-emit-clause-front : goal.returns-in_err-emit-clause-front
returns-in_err-emit-clause-front g c =
    let e = c.args.export.now in
    let text = members_text 0 (all_files (text_of_damage e) (table_of_intact e.intact) (nodes_of_intact e.intact) (lost_in e.lost)) in
    front_behind _ _ _ text end_text c.in_ok-write_files.ensures.all.0 (rw c.end.ensures at c.in_err-emit.ensures.front)

pub returns-clause-all : goal.returns-clause-all
returns-clause-all g c =
    let e = c.args.export.now in
    let text = members_text 0 (all_files (text_of_damage e) (table_of_intact e.intact) (nodes_of_intact e.intact) (lost_in e.lost)) in
    Appends-trans _ _ _ text end_text c.in_ok-write_files.ensures.all.0 (rw c.end.ensures at c.in_ok-emit.ensures.all)

pub returns-clause-front : goal.returns-clause-front
returns-clause-front g c =
    let e = c.args.export.now in
    let text = members_text 0 (all_files (text_of_damage e) (table_of_intact e.intact) (nodes_of_intact e.intact) (lost_in e.lost)) in
    front_of_all _ _ (text ++ end_text) (Appends-trans _ _ _ text end_text c.in_ok-write_files.ensures.all.0 (rw c.end.ensures at c.in_ok-emit.ensures.all))

pub returns-clause-read : goal.returns-clause-read
returns-clause-read g c =
    let e = c.args.export.now in
    let counted = c.in_ok-write_files.ensures.all.1 in
    read_back_law (text_of_damage e) (table_of_intact e.intact) (nodes_of_intact e.intact) (lost_in e.lost) counted.sizes (omega (arith, counted.count, c.fits.ensures))
