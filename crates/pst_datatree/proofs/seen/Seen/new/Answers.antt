use Rattle.pst_datatree.proofs.SeenLemmas.{nothing_true, nothing_held}
use Rattle.pst_datatree.proofs.seen.Seen.new.Goals as goal

pub returns-clause-known : goal.returns-clause-known
returns-clause-known c t = nothing_true t _ c.new.ensures.empty

pub returns-clause-empty : goal.returns-clause-empty
returns-clause-empty c = nothing_held _ c.new.ensures.empty
