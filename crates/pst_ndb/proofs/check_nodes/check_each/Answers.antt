use Rattle.std.proofs.Common.{map, ap}
use Rattle.std.proofs.lemmas.Result.{err_from_is_err_and}
use Rattle.pst_fault.proofs.EachLemmas.{each_next, each_refused, contains_here, contains_later}
use Rattle.pst_btree.specs.Trees.{node_entries}
use Rattle.pst_btree.specs.Nodes.{nodes_left}
use Rattle.pst_block.specs.Blocks.{table_of}
use Rattle.pst_subnode.proofs.PartLemmas.{adds_entry, entry_next, entries_done}
use Rattle.pst_ndb.specs.Known.{entry_of_node}
use Rattle.pst_ndb.specs.Fault.{node_fault}
use Rattle.pst_ndb.proofs.check_nodes.check_each.Goals as goal

pub returns-in_err-check_node-clause-exact : goal.returns-in_err-check_node-clause-exact
returns-in_err-check_node-clause-exact c =
    let p = err_from_is_err_and c.from_residual.result c.from_residual.ensures.1 in
    rw (p.1, p.2) (each_refused (node_fault (table_of c.args.blocks.now)) _ _ _ _ _ c.in-Some.ensures.steps c.in_err-check_node.ensures.exact c.loop-entry.invariant.first)

pub returns-in_err-check_node-clause-adds : goal.returns-in_err-check_node-clause-adds
returns-in_err-check_node-clause-adds c =
    let rest = map entry_of_node (nodes_left c.next.new.self) in
    let steps = ap (map entry_of_node) c.in-Some.ensures.steps in
    let sub = entry_of_node c.in-Some.entry in
    adds_entry (table_of c.args.blocks.now) (map entry_of_node (node_entries c.args.tree.now)) sub c.args.known.now.seen c.args.known.now.heights c.loop-entry.known.seen c.loop-entry.known.heights c.check_node.new.known.seen c.check_node.new.known.heights (c.loop-entry.invariant.within sub (rw steps (contains_here sub rest))) c.loop-entry.invariant.adds c.in_err-check_node.ensures.adds

pub loop-entry-preserved : goal.loop-entry-preserved
loop-entry-preserved c =
    let all = map entry_of_node (node_entries c.args.tree.now) in
    let xs = map entry_of_node (nodes_left c.loop-entry.entry-iterator) in
    let rest = map entry_of_node (nodes_left c.next.new.self) in
    let steps = ap (map entry_of_node) c.in-Some.ensures.steps in
    let sub = entry_of_node c.in-Some.entry in
    let inv = c.loop-entry.invariant in
    let node = c.in_ok-check_node.ensures in
    record {
      first = each_next (node_fault (table_of c.args.blocks.now)) _ _ c.in-Some.entry _ c.in-Some.ensures.steps node.exact.0 inv.first;
      known = node.known;
      adds = adds_entry (table_of c.args.blocks.now) all sub c.args.known.now.seen c.args.known.now.heights c.loop-entry.known.seen c.loop-entry.known.heights c.check_node.new.known.seen c.check_node.new.known.heights (inv.within sub (rw steps (contains_here sub rest))) inv.adds node.adds;
      there = entry_next (table_of c.args.blocks.now) _ all xs rest sub c.loop-entry.known.seen c.loop-entry.known.heights c.check_node.new.known.seen c.check_node.new.known.heights steps inv.there node.adds node.there;
      within = λ other w. inv.within other (rw steps (contains_later sub other rest w));
      counts = λ is. node.counts (inv.counts is);
    }

pub returns-clause-there : goal.returns-clause-there
returns-clause-there c =
    entries_done (table_of c.args.blocks.now) c.loop-entry.known.seen c.loop-entry.known.heights (map entry_of_node (node_entries c.args.tree.now)) (map entry_of_node (nodes_left c.loop-entry.entry-iterator)) (ap (map entry_of_node) c.in-None.ensures.steps.0) c.loop-entry.invariant.there
