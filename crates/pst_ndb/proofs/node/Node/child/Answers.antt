use Rattle.pst_ndb.proofs.node.Node.child.Goals as goal

-- no index was lent
pub invariant_of-result-clause-indexed : goal.invariant_of-result-clause-indexed
invariant_of-result-clause-indexed c = tt

pub invariant_of-result-clause-span_indexed : goal.invariant_of-result-clause-span_indexed
invariant_of-result-clause-span_indexed c = tt
