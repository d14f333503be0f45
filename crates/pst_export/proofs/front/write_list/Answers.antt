use Rattle.std.proofs.Common.{◌∙◌, [], ◌∷◌, subst}
use Rattle.std.specs.Prelude.{codes}
use Rattle.pst_export.specs.Store.{member_named}
use Rattle.pst_export.specs.Written.{AddsFiles, AddsFront}
use Rattle.pst_export.proofs.WriteLemmas.{front_whole}
use Rattle.pst_export.proofs.front.write_list.Goals as goal

pub returns-in_err-write_bytes-clause-front : goal.returns-in_err-write_bytes-clause-front
returns-in_err-write_bytes-clause-front g c =
    let is = c.deref-2.ensures.value ∙ c.in_ok-line.ensures in
    subst (λ b. AddsFront (g.W.Write.contents c.args.out.now) (g.W.Write.contents c.write_bytes.new.out) c.args.number.now (member_named (codes "folders.json") b ∷ [])) is c.in_err-write_bytes.ensures.front

pub returns-clause-all : goal.returns-clause-all
returns-clause-all g c =
    let is = c.deref-2.ensures.value ∙ c.in_ok-line.ensures in
    subst (λ b. AddsFiles (g.W.Write.contents c.args.out.now) (g.W.Write.contents c.write_bytes.new.out) c.args.number.now c.write_bytes.new.number (member_named (codes "folders.json") b ∷ [])) is c.in_ok-write_bytes.ensures.all

pub returns-clause-front : goal.returns-clause-front
returns-clause-front g c =
    let is = c.deref-2.ensures.value ∙ c.in_ok-line.ensures in
    front_whole _ _ _ _ _ (subst (λ b. AddsFiles (g.W.Write.contents c.args.out.now) (g.W.Write.contents c.write_bytes.new.out) c.args.number.now c.write_bytes.new.number (member_named (codes "folders.json") b ∷ [])) is c.in_ok-write_bytes.ensures.all)
