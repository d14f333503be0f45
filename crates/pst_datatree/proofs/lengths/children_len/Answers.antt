use Rattle.std.proofs.Common.{arith, rules}
use Rattle.std.proofs.lemmas.Grind.{common_steps}
use Rattle.std.proofs.lemmas.Result.{err_from_is_err_and}
use Rattle.pst_block.specs.Blocks.{table_of}
use Rattle.pst_fault.proofs.FirstLemmas.{is_first_at}
use Rattle.pst_datatree.specs.Data.{child_fault}
use Rattle.pst_datatree.proofs.AddLemmas.{adds_next, there_next}
use Rattle.pst_datatree.proofs.lengths.children_len.Goals as goal

pub returns-in_err-total-clause-value : goal.returns-in_err-total-clause-value
returns-in_err-total-clause-value c =
    let p = err_from_is_err_and c.from_residual.result c.from_residual.ensures.1 in
    let part = child_fault (table_of c.args.blocks.now) c.args.holder in
    rw (p.1, p.2) (is_first_at part c.args.count c.loop-i.i _ c.in_err-total.ensures.value c.loop-i.invariant.sound (omega arith))

pub returns-in_err-total-clause-adds : goal.returns-in_err-total-clause-adds
returns-in_err-total-clause-adds c =
    adds_next (table_of c.args.blocks.now) c.args.holder c.args.count c.loop-i.i c.args.seen.now c.loop-i.seen c.child_len.new.seen c.loop-i-test.true c.loop-i.invariant.adds c.in_err-total.ensures.adds

pub loop-i-preserved : goal.loop-i-preserved
loop-i-preserved c =
    let t = table_of c.args.blocks.now in
    let inv = c.loop-i.invariant in
    let child = c.in_ok-total.ensures in
    record {
      sound = search rules;
      counted = grind (arith, common_steps);
      small = search rules;
      known = child.known;
      counts = λ k ahead. child.counts k (inv.counts k ahead);
      levels = λ bid e there two known. inv.levels bid e there two (child.levels bid e there two known);
      adds = adds_next t c.args.holder c.args.count c.loop-i.i c.args.seen.now c.loop-i.seen c.child_len.new.seen c.loop-i-test.true inv.adds child.adds;
      there = there_next t c.args.holder _ c.loop-i.i c.loop-i.seen c.child_len.new.seen inv.there child.adds child.there;
      grows = omega (arith, child.grows, inv.grows);
    }
