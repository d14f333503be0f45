use Rattle.std.proofs.Common.{ap, find, ◌∙◌}
use Rattle.pst_explain.specs.Kinds.{behind_no, is_named, kinds}
use Rattle.pst_explain.proofs.named.kind_named.Goals as goal

pub returns : goal.returns
returns c = c.kind_in.ensures ∙ ap (λ word. find (is_named word) kinds) (c.behind_no.ensures ∙ ap behind_no c.as_bytes.ensures.value)
