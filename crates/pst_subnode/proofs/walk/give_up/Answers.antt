use Rattle.std.proofs.Common.{arith}
use Rattle.std.proofs.lemmas.List.{nil_from_length}
use Rattle.pst_subnode.proofs.StackLemmas.{given_up, given_up_first, given_up_whole, all_given_up}
use Rattle.pst_subnode.proofs.walk.give_up.Goals as goal

pub loop-frame-preserved : goal.loop-frame-preserved
loop-frame-preserved c = record {
  goes = λ t a s up.
      let before = c.loop-frame.invariant.goes t a s up in
      given_up t a c.pop.new.self.items c.in-Some.frame c.args.fault s c.loop-frame.heights c.forget.new.self (rw c.in-Some.ensures.items at before) c.forget.ensures.put c.forget.ensures.ranges (omega (arith, c.forget.ensures.counts));
  faults = λ t a s up are.
      let before = c.loop-frame.invariant.goes t a s up in
      let up_here = rw c.in-Some.ensures.items at before in
      c.put_opened.ensures t (given_up_whole t a c.pop.new.self.items c.in-Some.frame c.args.fault s c.loop-frame.heights up_here) (given_up_first t a c.pop.new.self.items c.in-Some.frame c.args.fault s c.loop-frame.heights up_here) (c.loop-frame.invariant.faults t a s up are);
}

pub returns-clause-given_up : goal.returns-clause-given_up
returns-clause-given_up c = λ t a s up.
    all_given_up t a c.loop-frame.stack.items c.args.fault s c.loop-frame.heights (nil_from_length c.loop-frame.stack.items (omega (arith, c.in_default.ensures.cases, c.loop-frame.stack.ok))) (c.loop-frame.invariant.goes t a s up)
