use Rattle.std.proofs.Common.{length, arith}
use Rattle.pst_ndb.specs.Roots.{all_roots}
use Rattle.pst_ndb.specs.Views.{nodes_of, roots_left}
use Rattle.pst_reach.specs.pst_store.pst_msg.Values.{is_folder, is_message}
use Rattle.pst_verify.specs.Counts.{count_of}
use Rattle.pst_verify.proofs.CountLemmas.{counted_at_first, rises_at_first, counted, step_told, few_told, rises_on}
use Rattle.pst_verify.proofs.counts.count_nodes.Goals as goal

pub loop-node-init : goal.loop-node-init
loop-node-init c =
    let all = c.nodes-rest.ensures.roots in
    let nodes = nodes_of c.args.ndb.now in
    let left = roots_left c.nodes-rest.result in record {
      nodes = counted_at_first length left (all_roots nodes) all;
      folders = counted_at_first (count_of is_folder) left (all_roots nodes) all;
      messages = counted_at_first (count_of is_message) left (all_roots nodes) all;
      rise = rises_at_first left nodes all c.nodes_rise.ensures;
      few = omega arith;
      some = omega arith;
    }

pub loop-node-preserved : goal.loop-node-preserved
loop-node-preserved c =
    let taken = c.in-Some.ensures.steps.1 in
    let before = c.loop-node.invariant in record {
      nodes = counted _ _ _ _ _ taken before.nodes;
      folders = step_told _ _ _ _ _ _ _ _ _ taken c.top-nid.ensures c.is_folder.ensures c.one_if-folders.ensures before.folders;
      messages = step_told _ _ _ _ _ _ _ _ _ taken c.top-nid.ensures c.is_message.ensures c.one_if-messages.ensures before.messages;
      rise = rises_on _ _ _ _ taken before.rise;
      few = few_told _ _ _ _ c.one_if-folders.ensures before.few;
      some = few_told _ _ _ _ c.one_if-messages.ensures before.some;
    }
