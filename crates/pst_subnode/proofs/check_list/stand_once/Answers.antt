use Rattle.std.proofs.Common.{map, ap, sym, ◌∙◌}
use Rattle.std.specs.Ordering.{nat_cmp}
use Rattle.std.specs.BTreeSet.{contains}
use Rattle.pst_subnode.specs.List.{sub_nid}
use Rattle.pst_subnode.specs.Left.{subs_left}
use Rattle.pst_subnode.proofs.DistinctLemmas.{distinct_start, distinct_more, fresh_met, fresh_end, was_met, was_new}
use Rattle.pst_subnode.proofs.check_list.stand_once.Goals as goal

pub loop-sub-init : goal.loop-sub-init
loop-sub-init c = distinct_start c.new-met.result (map sub_nid (subs_left c.args.subs)) c.new-met.ensures.empty

pub returns-then-not-branch-clause-value : goal.returns-then-not-branch-clause-value
returns-then-not-branch-clause-value c =
    let met = contains nat_cmp c.loop-sub.met in
    sym (fresh_met met (map sub_nid (subs_left c.loop-sub.rest)) (map sub_nid (subs_left c.next.new.self)) c.in-Some.sub.nid (ap (map sub_nid) c.in-Some.ensures.steps) (was_met _ _ c.in_ok-insert.ensures.added c.if-not-branch.true))
    ∙ c.loop-sub.invariant

pub loop-sub-preserved : goal.loop-sub-preserved
loop-sub-preserved c =
    distinct_more c.loop-sub.met c.insert.new.self (map sub_nid (subs_left c.loop-sub.rest)) (map sub_nid (subs_left c.next.new.self)) c.in-Some.sub.nid (ap (map sub_nid) c.in-Some.ensures.steps) (was_new _ _ c.in_ok-insert.ensures.added c.if-not-branch.false) c.in_ok-insert.ensures.updates.0
    ∙ c.loop-sub.invariant

pub returns-clause-value : goal.returns-clause-value
returns-clause-value c =
    sym (fresh_end (contains nat_cmp c.loop-sub.met) (map sub_nid (subs_left c.loop-sub.rest)) (ap (map sub_nid) c.in_default.ensures.steps.0)) ∙ c.loop-sub.invariant
