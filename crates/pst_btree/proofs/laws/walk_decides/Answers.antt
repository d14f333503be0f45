use Rattle.pst_btree.proofs.TreeLaws.{walk_law, one_tree_law}
use Rattle.pst_btree.proofs.laws.walk_decides.Goals as goal

pub returns-clause-law : goal.returns-clause-law
returns-clause-law c = walk_law

pub returns-clause-one : goal.returns-clause-one
returns-clause-one c = one_tree_law
