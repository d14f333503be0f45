use Rattle.pst_block.specs.Blocks.{table_of}
use Rattle.pst_subnode.proofs.NumberLemmas.{with_numbers}
use Rattle.pst_subnode.proofs.apart.block_is_apart.Goals as goal

pub returns-in_err-learn_leaves-clause-known : goal.returns-in_err-learn_leaves-clause-known
returns-in_err-learn_leaves-clause-known c = with_numbers (table_of c.args.blocks.now) c.args.ranges.now c.learn_leaves.new.numbers _ c.requires.known c.learn_leaves.ensures.known

pub returns-in_err-begin-clause-known : goal.returns-in_err-begin-clause-known
returns-in_err-begin-clause-known c = with_numbers (table_of c.args.blocks.now) c.args.ranges.now c.learn_leaves.new.numbers c.begin.new.self c.requires.known c.learn_leaves.ensures.known

pub returns-clause-known : goal.returns-clause-known
returns-clause-known c = with_numbers (table_of c.args.blocks.now) c.args.ranges.now c.learn_leaves.new.numbers c.meet_leaves.new.stamps c.requires.known c.learn_leaves.ensures.known
