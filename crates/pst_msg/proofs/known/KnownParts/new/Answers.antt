use Rattle.std.proofs.Common.{rules}
use Rattle.pst_fault.specs.Fault.{at_node}
use Rattle.pst_remembered.specs.Broken.{context_part, held_part, retold}
use Rattle.pst_msg.proofs.KnownLemmas.{nothing_known}
use Rattle.pst_msg.proofs.known.KnownParts.new.Goals as goal

pub returns-clause-known : goal.returns-clause-known
returns-clause-known c = λ t. nothing_known t _ (search rules) (search rules) (search rules) (search rules) (search rules) (c.new-6.ensures t) (search rules) (search rules) (search rules) (search rules) (c.new-11.ensures at_node (context_part t)) (c.new-12.ensures retold (held_part t))
