use Rattle.std.proofs.Common.{arith}
use Rattle.pst_msg.proofs.HeldLemmas.{last_given_up, room_before}
use Rattle.pst_msg.proofs.indexes.Indexes.give_way.Goals as goal

pub returns-then-last-entries-clause-room : goal.returns-then-last-entries-clause-room
returns-then-last-entries-clause-room c = λ t were.
    room_before t c.loop-last.self c.deref.result.now c.in-Some.last.now c.args.entries (c.loop-last.invariant.index t were) c.deref.ensures.value c.in-Some.ensures.value (omega (arith, c.if-last-entries.true))

pub loop-last-preserved-else-last-entries : goal.loop-last-preserved-else-last-entries
loop-last-preserved-else-last-entries c = record {
  index = λ t were. last_given_up t c.loop-last.self _ c.pop-given_up.result c.pop-given_up.ensures.items (c.loop-last.invariant.index t were);
}

pub loop-last-preserved-else-last-entries-2 : goal.loop-last-preserved-else-last-entries-2
loop-last-preserved-else-last-entries-2 c = record {
  index = λ t were. last_given_up t c.loop-last.self _ c.pop-given_up.result c.pop-given_up.ensures.items (c.loop-last.invariant.index t were);
}
