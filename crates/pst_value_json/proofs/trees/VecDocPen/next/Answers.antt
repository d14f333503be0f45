use Rattle.std.proofs.Common.{[], ◌∷◌, ◌++◌, map, ap, ◌∙◌, sym, rules}
use Rattle.serde_json.specs.Data.{object, string}
use Rattle.serde_json.specs.View.{view}
use Rattle.pst_value_json.proofs.DocLemmas.{object_stands, key_put}
use Rattle.pst_value_json.proofs.PenLemmas.{put_last}
use Rattle.pst_value_json.proofs.trees.VecDocPen.next.Goals as goal

pub returns-clause-put : goal.returns-clause-put
returns-clause-put c base done at =
    let front = map view base.items in
    let stands = object_stands at.0.items c.args.self.now.items front at.1 at.2 at.3 at.4 at.5 in
    key_put _ _ _ front (object done) (string c.args.key.now) (c.in_ok-put_member.ensures front at.1 at.2 at.3 stands ∙ ap (λ ms. front ++ object ms ∷ []) (put_last at.1 at.2 at.3 at.6 ∙ sym at.7)) c.in_ok-push.ensures.items (search rules)
