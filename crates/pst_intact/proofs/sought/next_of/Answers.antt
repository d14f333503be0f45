use Rattle.pst_fault.proofs.EachLemmas.{each_first, each_rest}
use Rattle.pst_intact.proofs.sought.next_of.Goals as goal

pub returns-then-is_sought-clause-sound : goal.returns-then-is_sought-clause-sound
returns-then-is_sought-clause-sound c = λ part none.
    let before = c.loop-node.invariant.sound part none in
    let step = c.in-Some.ensures.steps.1 in
    (each_first part _ _ _ before step, each_rest part _ _ _ before step)
