use Rattle.pst_subnode.proofs.StateLemmas.{nothing_known, nothing_at}
use Rattle.pst_subnode.proofs.heights.Heights.new.Goals as goal

pub returns-clause-known : goal.returns-clause-known
returns-clause-known c t = nothing_known t _ c.new.ensures (c.new-2.ensures t)

pub returns-clause-empty : goal.returns-clause-empty
returns-clause-empty c = nothing_at _ c.new.ensures
