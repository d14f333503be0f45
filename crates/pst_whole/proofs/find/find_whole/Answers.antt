use Rattle.std.proofs.Common.{◌∙◌}
use Rattle.pst_btree.specs.Lists.{nodes_in_list}
use Rattle.pst_block.specs.Blocks.{table_of}
use Rattle.pst_whole.proofs.LostLemmas.{told_there_is, untold_is}
use Rattle.pst_whole.proofs.find.find_whole.Goals as goal

pub of-requires-clause-whole : goal.of-requires-clause-whole
of-requires-clause-whole c =
    let t = table_of c.good_blocks.result in
    let nodes = nodes_in_list c.node_list-nodes.result in
    let pages = c.deref.result.now in
    let told = told_there_is t nodes pages c.in_ok-judged.judged.broken.items c.told_there-told.result.items c.in_ok-judged.ensures.broken c.told_there-told.ensures in
    let whole = untold_is t nodes pages c.deref-2.result.now c.in_ok-entries.entries.items (c.deref-2.ensures.value ∙ told) c.in_ok-entries.ensures in
    rw (c.good_blocks.ensures.table, c.node_list-nodes.ensures, c.deref.ensures.value) at whole
