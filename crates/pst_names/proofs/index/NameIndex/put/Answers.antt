use Rattle.std.proofs.Common.{sym, ◌∙◌}
use Rattle.pst_names.proofs.IndexLemmas.{put_nothing, put_new}
use Rattle.pst_names.proofs.index.NameIndex.put.Goals as goal

pub returns-in_ok-_before : goal.returns-in_ok-_before
returns-in_ok-_before c id = put_new c.args.self.now _ c.args.fields c.from.result c.from.ensures (sym c.contains_key.ensures ∙ c.if-not-contains_key.true) c.in_ok-_before.ensures.updates.0 id

pub returns-else-not-contains_key : goal.returns-else-not-contains_key
returns-else-not-contains_key c id = put_nothing c.args.self.now c.args.fields c.from.result c.from.ensures (sym c.contains_key.ensures ∙ c.if-not-contains_key.false) id
