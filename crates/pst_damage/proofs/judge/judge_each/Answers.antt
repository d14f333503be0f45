use Rattle.std.proofs.Common.{sym, refl, ◌∙◌, map, None}
use Rattle.pst_btree.specs.Entries.{node_key}
use Rattle.pst_btree.specs.Order.{Rises}
use Rattle.pst_ndb.specs.Fault.{node_fault}
use Rattle.pst_damage.specs.Left.{left_table, left_nodes, left_pages}
use Rattle.pst_damage.specs.Nodes.{node_damage}
use Rattle.pst_damage.proofs.JudgedLemmas.{told_next, told_done}
use Rattle.pst_damage.proofs.RiseLemmas.{own_is, next_own}
use Rattle.pst_damage.proofs.judge.judge_each.Goals as goal

pub loop-entry-init : goal.loop-entry-init
loop-entry-init c = record {
  known = c.new-known.ensures (left_table c.args.left.now) (left_nodes c.args.left.now) (left_pages c.args.left.now);
  own = rw c.entries-entry-items.ensures c.args.left.now.own_are;
  items = c.entries-entry-items.ensures;
  told = rw (c.new-told.ensures.items, c.entries-entry-items.ensures) refl;
}

pub fault_of-requires-clause-own : goal.fault_of-requires-clause-own
fault_of-requires-clause-own c =
    let nodes = c.entries-entry-items.result.now in
    let rises : Rises 0 None (map node_key nodes) = rw c.entries-entry-items.ensures c.nids_rise.ensures in
    c.take_told-own_fault.ensures.value ∙ own_is (node_fault (left_table c.args.left.now)) c.args.left.now.own.now nodes c.loop-entry.next c.loop-entry.entry-index _ rises c.loop-entry-test.true c.loop-entry.invariant.own

pub loop-entry-preserved : goal.loop-entry-preserved
loop-entry-preserved c =
    let nodes = c.entries-entry-items.result.now in
    let i = c.loop-entry.entry-index in
    let part = node_damage (left_table c.args.left.now) (left_nodes c.args.left.now) (left_pages c.args.left.now) in
    let rises : Rises 0 None (map node_key nodes) = rw c.entries-entry-items.ensures c.nids_rise.ensures in
    let is = own_is (node_fault (left_table c.args.left.now)) c.args.left.now.own.now nodes c.loop-entry.next i _ rises c.loop-entry-test.true c.loop-entry.invariant.own in
    record {
      known = c.fault_of.ensures.known;
      own = rw c.take_told-own_fault.ensures.next (next_own (node_fault (left_table c.args.left.now)) c.args.left.now.own.now nodes c.loop-entry.next i _ _ c.loop-entry-test.true (sym (c.take_told-own_fault.ensures.value ∙ is)) c.loop-entry.invariant.own);
      items = c.loop-entry.invariant.items;
      told = told_next part _ _ _ nodes i _ _ c.loop-entry-test.true (sym c.in_ok-fault.ensures.exact) c.in_ok-push_told.ensures c.loop-entry.invariant.told;
    }

pub returns-clause-told : goal.returns-clause-told
returns-clause-told c =
    let part = node_damage (left_table c.args.left.now) (left_nodes c.args.left.now) (left_pages c.args.left.now) in
    told_done part _ _ c.entries-entry-items.result.now c.loop-entry.entry-index c.loop-entry-test.false c.loop-entry.invariant.told
