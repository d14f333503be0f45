use Rattle.std.proofs.Common.{map, ap}
use Rattle.pst_subnode.specs.List.{sub_nid}
use Rattle.pst_subnode.specs.Left.{subs_left}
use Rattle.pst_subnode.proofs.DistinctLemmas.{twice_start, twice_other, twice_met}
use Rattle.pst_subnode.proofs.apart.stands_twice.Goals as goal

pub loop-sub-init : goal.loop-sub-init
loop-sub-init c = twice_start (map sub_nid (subs_left c.args.subs)) c.args.nid

pub loop-sub-preserved-then-sub-nid : goal.loop-sub-preserved-then-sub-nid
loop-sub-preserved-then-sub-nid c =
    twice_met _ (map sub_nid (subs_left c.loop-sub.rest)) (map sub_nid (subs_left c.next.new.self)) c.args.nid c.in-Some.sub.nid c.loop-sub.met (ap (map sub_nid) c.in-Some.ensures.steps) c.if-sub-nid.true c.loop-sub.invariant

pub loop-sub-preserved : goal.loop-sub-preserved
loop-sub-preserved c =
    twice_other _ (map sub_nid (subs_left c.loop-sub.rest)) (map sub_nid (subs_left c.next.new.self)) c.args.nid c.in-Some.sub.nid c.loop-sub.met (ap (map sub_nid) c.in-Some.ensures.steps) c.loop-sub.invariant
