use Rattle.std.proofs.Common.{sym, ◌∙◌, map, None}
use Rattle.pst_btree.specs.Entries.{node_key}
use Rattle.pst_btree.specs.Order.{Rises}
use Rattle.pst_damage.proofs.JudgedLemmas.{sound_next, sound_done}
use Rattle.pst_damage.proofs.RiseLemmas.{own_is, next_own}
use Rattle.pst_whole.proofs.told.untold.Goals as goal

pub loop-entry-preserved : goal.loop-entry-preserved
loop-entry-preserved c =
    let nodes = c.entries-entry-items.result.now in
    let i = c.loop-entry.entry-index in
    let before = c.loop-entry.invariant in
    let rises : Rises 0 None (map node_key nodes) = rw c.entries-entry-items.ensures c.nids_rise.ensures in
    record {
      items = before.items;
      told = λ part is.
          rw c.take_told-fault.ensures.next
          (next_own part c.args.told.now nodes c.loop-entry.next i _ _ c.loop-entry-test.true
          (sym (c.take_told-fault.ensures.value ∙ own_is part c.args.told.now nodes c.loop-entry.next i _ rises c.loop-entry-test.true (before.told part is)))
          (before.told part is));
      kept = λ part is.
          sound_next part _ _ _ nodes i _ _ c.loop-entry-test.true
          (sym (c.take_told-fault.ensures.value ∙ own_is part c.args.told.now nodes c.loop-entry.next i _ rises c.loop-entry-test.true (before.told part is)))
          c.in_ok-push_untold.ensures (before.kept part is);
    }

pub returns : goal.returns
returns c part is = sound_done part _ _ c.entries-entry-items.result.now c.loop-entry.entry-index c.loop-entry-test.false (c.loop-entry.invariant.kept part is)
