use Rattle.std.proofs.Common.{inr, sym, ap, ◌∙◌, Some, rules}
use Rattle.pst_fault.specs.Fault.{at_node}
use Rattle.pst_block.specs.Blocks.{table_of}
use Rattle.pst_msg.specs.Keys.{Key}
use Rattle.pst_msg.proofs.FaultsLemmas.{told_kept}
use Rattle.pst_damage.specs.Trees.{data_part}
use Rattle.pst_damage.proofs.FaultsLemmas.{data_keep}
use Rattle.pst_damage.proofs.trees.check_content.Goals as goal

pub returns-in-Some-clause-exact : goal.returns-in-Some-clause-exact
returns-in-Some-clause-exact c =
    inr (told_kept at_node (data_part (table_of c.args.blocks.now)) c.args.known.now.content ((c.args.entry.bid_data, 0), 0) c.in-Some.fault c.args.entry.nid c.requires.content c.in-Some.ensures ∙ ap Some (sym c.at_node.ensures))

pub returns-clause-known : goal.returns-clause-known
returns-clause-known c =
    let t = table_of c.args.blocks.now in
    let part : Key = ((c.args.entry.bid_data, 0), 0) in
    record {
      whole = search rules;
      content = c.keep.ensures.known at_node (data_part t) (data_keep t part c.args.entry.nid c.check_data-answer.result c.check_data-answer.ensures.exact) c.requires.content;
      below = c.requires.below;
    }
