use Rattle.std.proofs.Common.{sym}
use Rattle.pst_block.specs.Blocks.{table_of}
use Rattle.pst_subnode.specs.declared.check.TheConstants.{LISTS}
use Rattle.pst_subnode.proofs.GuessLemmas.{guessed}
use Rattle.pst_subnode.proofs.find.find_sub.Goals as goal

pub returns-in-Some : goal.returns-in-Some
returns-in-Some c = sym (guessed (table_of c.args.blocks.now) LISTS c.args.bid c.args.nid c.in-Some.sub c.requires c.in-Some.ensures.there c.in-Some.ensures.nid)
