use Rattle.std.proofs.Common.{◌∙◌, refl}
use Rattle.pst_subnode.specs.List.{leaf_subs}
use Rattle.pst_subnode.proofs.LeftLemmas.{opens}
use Rattle.pst_subnode.proofs.entries.Subs.with_next_leaf.Goals as goal

pub returns-clause-same : goal.returns-clause-same
unfolding leaf_subs
returns-clause-same c =
    let after = c.behind.ensures in
    let leaf = c.of_leaf-leaf.ensures in
    rw after.body (opens _ _ _ _ _ _ _ _ _ _ _ _ _ _ c.requires.used after.next after.left (leaf.left ∙ rw c.bid_at-bid.ensures refl) leaf.leaves)
