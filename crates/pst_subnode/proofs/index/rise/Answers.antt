use Rattle.std.proofs.Common.{map, ap, sym, ◌∙◌, arith}
use Rattle.pst_subnode.specs.List.{sub_nid}
use Rattle.pst_subnode.specs.Left.{subs_left}
use Rattle.pst_subnode.proofs.RiseLemmas.{rise_ends, rise_goes_on, rise_whole}
use Rattle.pst_subnode.proofs.index.rise.Goals as goal

pub returns-then-nid-end : goal.returns-then-nid-end
returns-then-nid-end c =
    sym (rise_ends c.loop-sub.end c.in-Some.sub.nid (map sub_nid (subs_left c.loop-sub.rest)) (map sub_nid (subs_left c.next.new.self)) (ap (map sub_nid) c.in-Some.ensures.steps) (omega (arith, c.if-nid-end.true, c.from-nid.ensures)))
    ∙ c.loop-sub.invariant

pub loop-sub-preserved : goal.loop-sub-preserved
loop-sub-preserved c =
    rw c.from-nid.ensures (rise_goes_on c.loop-sub.end c.in-Some.sub.nid (map sub_nid (subs_left c.loop-sub.rest)) (map sub_nid (subs_left c.next.new.self)) (ap (map sub_nid) c.in-Some.ensures.steps) (omega (arith, c.if-nid-end.false, c.from-nid.ensures)))
    ∙ c.loop-sub.invariant

pub returns : goal.returns
returns c =
    sym (rise_whole c.loop-sub.end (map sub_nid (subs_left c.loop-sub.rest)) (ap (map sub_nid) c.in_default.ensures.steps.0)) ∙ c.loop-sub.invariant
