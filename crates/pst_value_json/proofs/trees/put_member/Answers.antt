use Rattle.std.proofs.Common.{[], ◌∷◌, ◌++◌, sym, append_assoc, ◌∙◌}
use Rattle.serde_json.specs.Data.{object, string}
use Rattle.pst_value_json.proofs.DocLemmas.{but_last, member_in}
use Rattle.pst_value_json.proofs.trees.put_member.Goals as goal

pub returns : goal.returns
returns c front done k d is =
    let value = c.take_last-value.ensures (front ++ object done ∷ string k ∷ []) d (is ∙ sym (append_assoc front (object done ∷ string k ∷ []) (d ∷ []))) in
    let key = c.take_last.ensures (front ++ object done ∷ []) (string k) (but_last _ front (object done) (string k) value.1) in
    let below = c.take_last-2.ensures front (object done) key.1 in
    member_in front done k d _ _ c.members_in-map.result c.insert.new.self c.text_in-key.result c.take_last-value.result below.1 (c.members_in-map.ensures done below.0) (c.text_in-key.ensures k key.0) value.0 c.in_ok-insert.ensures.entries c.in_ok-push.ensures.items
