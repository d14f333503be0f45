use Rattle.std.proofs.Common.{map}
use Rattle.pst_subnode.specs.List.{sub_nid}
use Rattle.pst_subnode.specs.Left.{subs_left}
use Rattle.pst_subnode.proofs.DistinctLemmas.{IsTwiceIn}
use Rattle.pst_subnode.proofs.apart.stands_twice.Given as goal

abbrev pub invariant-loop-sub : goal.invariant-loop-sub
invariant-loop-sub l = IsTwiceIn (map sub_nid (subs_left l.fn.subs)) (map sub_nid (subs_left l.rest)) l.nid l.met
