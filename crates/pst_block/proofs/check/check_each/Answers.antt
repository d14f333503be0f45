use Rattle.std.proofs.Common.{◌∙◌, arith}
use Rattle.std.proofs.lemmas.Result.{err_from_is_err_and}
use Rattle.pst_bytes.specs.Image.{bytes_of}
use Rattle.pst_header.specs.Header.{end_of}
use Rattle.pst_block.proofs.WalkLemmas.{walk_next, walk_refused, walk_done}
use Rattle.pst_block.proofs.check.check_each.Goals as goal

pub returns-in_err-check_block-clause-ends : goal.returns-in_err-check_block-clause-ends
returns-in_err-check_block-clause-ends c =
    let p = err_from_is_err_and c.from_residual.result c.from_residual.ensures.1 in
    rw (p.1, p.2) (walk_refused (end_of c.args.header.now) (bytes_of c.args.image) _ _ c.args.entries.now c.loop-entry.entry-index _ _ _ c.loop-entry-test.true c.in_err-check_block.ensures.ends c.loop-entry.invariant.ends)

pub loop-entry-preserved : goal.loop-entry-preserved
loop-entry-preserved c = record {
  same = c.in_ok-check_block.ensures.same ∙ c.loop-entry.invariant.same;
  ends = walk_next (end_of c.args.header.now) (bytes_of c.args.image) _ _ c.args.entries.now c.loop-entry.entry-index _ _ c.loop-entry-test.true c.in_ok-check_block.ensures.ends c.loop-entry.invariant.ends;
  counted = omega (arith, c.in_ok-check_block.ensures.counted);
}

pub returns-clause-ends : goal.returns-clause-ends
returns-clause-ends c = walk_done (end_of c.args.header.now) (bytes_of c.args.image) _ c.args.entries.now c.loop-entry.entry-index _ c.loop-entry-test.false c.loop-entry.invariant.ends
