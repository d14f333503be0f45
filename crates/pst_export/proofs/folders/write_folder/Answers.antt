use Rattle.std.proofs.Common.{◌∙◌, [], ◌∷◌, subst}
use Rattle.pst_value_json.specs.Props.{names_told}
use Rattle.pst_export.specs.Written.{AddsFiles, AddsFront}
use Rattle.pst_export.proofs.FileLemmas.{folder_is}
use Rattle.pst_export.proofs.WriteLemmas.{front_whole}
use Rattle.pst_export.proofs.folders.write_folder.Goals as goal

pub returns-in_err-write_bytes-clause-front : goal.returns-in_err-write_bytes-clause-front
returns-in_err-write_bytes-clause-front g c =
    let is = folder_is (names_told c.args.names) c.args.folder _ _ _ _ c.pc.ensures c.is_sound.ensures.table c.nid.ensures.own c.nid.ensures.top
    (c.as_bytes.ensures.value ∙ c.in_ok-path.ensures) (c.deref.ensures.value ∙ c.in_ok-line.ensures.line) in
    subst (λ m. AddsFront (g.W.Write.contents c.args.out.now) (g.W.Write.contents c.write_bytes.new.out) c.args.number.now (m ∷ [])) is c.in_err-write_bytes.ensures.front

pub returns-clause-all : goal.returns-clause-all
returns-clause-all g c =
    let is = folder_is (names_told c.args.names) c.args.folder _ _ _ _ c.pc.ensures c.is_sound.ensures.table c.nid.ensures.own c.nid.ensures.top
    (c.as_bytes.ensures.value ∙ c.in_ok-path.ensures) (c.deref.ensures.value ∙ c.in_ok-line.ensures.line) in
    subst (λ m. AddsFiles (g.W.Write.contents c.args.out.now) (g.W.Write.contents c.write_bytes.new.out) c.args.number.now c.write_bytes.new.number (m ∷ [])) is c.in_ok-write_bytes.ensures.all

pub returns-clause-front : goal.returns-clause-front
returns-clause-front g c =
    let is = folder_is (names_told c.args.names) c.args.folder _ _ _ _ c.pc.ensures c.is_sound.ensures.table c.nid.ensures.own c.nid.ensures.top
    (c.as_bytes.ensures.value ∙ c.in_ok-path.ensures) (c.deref.ensures.value ∙ c.in_ok-line.ensures.line) in
    front_whole _ _ _ _ _ (subst (λ m. AddsFiles (g.W.Write.contents c.args.out.now) (g.W.Write.contents c.write_bytes.new.out) c.args.number.now c.write_bytes.new.number (m ∷ [])) is c.in_ok-write_bytes.ensures.all)
