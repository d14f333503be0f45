use Rattle.std.proofs.Common.{◌-◌, arith}
use Rattle.pst_bytes.specs.Image.{bytes_of}
use Rattle.pst_block.specs.Blocks.{table_of}
use Rattle.pst_subnode.proofs.GuessLemmas.{leaf_guess}
use Rattle.pst_subnode.proofs.guess.guess_of_leaves.Goals as goal

pub returns-clause-there : goal.returns-clause-there
returns-clause-there c =
    leaf_guess (table_of c.args.blocks.now) (bytes_of c.args.body) (c.loop-low.low - 1) c.guess_of_leaf.result
    (omega (arith, c.loop-low.invariant.order, c.loop-low.invariant.most, c.if-low-eq0.false))
    (rw c.bid_at-2.ensures at c.guess_of_leaf.ensures.there)
