use Rattle.std.proofs.Common.{◌∙◌, [], ◌∷◌, ap, subst, sym}
use Rattle.std.specs.Prelude.{codes, option_map}
use Rattle.pst_export.specs.Store.{damage_file}
use Rattle.pst_export.specs.Written.{AddsFiles, AddsFront, member_of}
use Rattle.pst_export.proofs.WriteLemmas.{front_whole}
use Rattle.pst_export.proofs.front.write_damage.Goals as goal

pub returns-in_err-write_bytes-in-Some-clause-front : goal.returns-in_err-write_bytes-in-Some-clause-front
returns-in_err-write_bytes-in-Some-clause-front g c =
    let is = ap (λ b. member_of (codes "damage.json") 0 b ∷ []) c.deref.ensures.value ∙ sym (ap (λ o. damage_file (option_map (λ t. t.items) o)) c.in-Some.is) in
    subst (λ l. AddsFront (g.W.Write.contents c.args.out.now) (g.W.Write.contents c.write_bytes.new.out) c.args.number.now l) is c.in_err-write_bytes-in-Some.ensures.front

pub returns-in_ok-write_bytes-in-Some-clause-all : goal.returns-in_ok-write_bytes-in-Some-clause-all
returns-in_ok-write_bytes-in-Some-clause-all g c =
    let is = ap (λ b. member_of (codes "damage.json") 0 b ∷ []) c.deref.ensures.value ∙ sym (ap (λ o. damage_file (option_map (λ t. t.items) o)) c.in-Some.is) in
    subst (λ l. AddsFiles (g.W.Write.contents c.args.out.now) (g.W.Write.contents c.write_bytes.new.out) c.args.number.now c.write_bytes.new.number l) is c.in_ok-write_bytes-in-Some.ensures.all

pub returns-in_ok-write_bytes-in-Some-clause-front : goal.returns-in_ok-write_bytes-in-Some-clause-front
returns-in_ok-write_bytes-in-Some-clause-front g c =
    let is = ap (λ b. member_of (codes "damage.json") 0 b ∷ []) c.deref.ensures.value ∙ sym (ap (λ o. damage_file (option_map (λ t. t.items) o)) c.in-Some.is) in
    front_whole _ _ _ _ _ (subst (λ l. AddsFiles (g.W.Write.contents c.args.out.now) (g.W.Write.contents c.write_bytes.new.out) c.args.number.now c.write_bytes.new.number l) is c.in_ok-write_bytes-in-Some.ensures.all)
