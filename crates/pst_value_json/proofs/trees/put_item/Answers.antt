use Rattle.std.proofs.Common.{[], ◌∷◌, ◌++◌}
use Rattle.serde_json.specs.Data.{Data, array}
use Rattle.serde_json.specs.View.{items_of}
use Rattle.pst_value_json.proofs.DocLemmas.{but_last, item_in}
use Rattle.pst_value_json.proofs.trees.put_item.Goals as goal

pub returns : goal.returns
returns c front done d is =
    let list : Data = array (items_of done) in
    let value = c.take_last-value.ensures (front ++ list ∷ []) d (but_last _ front list d is) in
    let below = c.take_last.ensures front list value.1 in
    item_in front done d _ _ _ _ _ below.1 (c.items_in-items.ensures (items_of done) below.0) value.0 c.in_ok-push.ensures.items c.in_ok-push-2.ensures.items
