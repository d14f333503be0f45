use Rattle.std.proofs.Common.{◌≡◌, [], ◌∷◌, ◌++◌, map, subst, ◌∙◌, sym}
use Rattle.std.specs.Prelude.{OnOk}
use Rattle.serde_json.specs.Data.{object}
use Rattle.serde_json.specs.View.{view}
use Rattle.pst_value_json.proofs.DocLemmas.{object_stands}
use Rattle.pst_value_json.proofs.PenLemmas.{put_last}
use Rattle.pst_value_json.proofs.trees.VecDocPen.close.Goals as goal

pub returns-clause-put : goal.returns-clause-put
returns-clause-put c base done at =
    let front = map view base.items in
    let stands = object_stands at.0.items c.args.self.now.items front at.1 at.2 at.3 at.4 at.5 in
    subst (λ ms. OnOk c.put_member.result (map view c.put_member.new.docs.items ≡ front ++ object ms ∷ [])) (put_last at.1 at.2 at.3 at.6 ∙ sym at.7) (c.put_member.ensures front at.1 at.2 at.3 stands)
