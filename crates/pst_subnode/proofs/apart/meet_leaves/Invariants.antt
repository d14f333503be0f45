use Rattle.pst_bytes.specs.Image.{bytes_of}
use Rattle.pst_fault.specs.First.{join_below}
use Rattle.pst_block.specs.Table.{Table}
use Rattle.pst_subnode.specs.List.{leaf_subs}
use Rattle.pst_subnode.specs.Numbers.{AreNumbersTrue, AreSubsMet}
use Rattle.pst_subnode.proofs.apart.meet_leaves.Given as goal

abbrev pub invariant-loop-i : goal.invariant-loop-i
invariant-loop-i l = (t : Table) → AreNumbersTrue t l.numbers → AreSubsMet l.numbers l.stamps (join_below (leaf_subs t (bytes_of l.body)) l.i)
