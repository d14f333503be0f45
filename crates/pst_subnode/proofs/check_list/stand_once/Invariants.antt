use Rattle.std.proofs.Common.{◌≡◌, length, map}
use Rattle.std.specs.Ordering.{nat_cmp}
use Rattle.std.specs.BTreeSet.{contains}
use Rattle.pst_subnode.specs.List.{are_distinct, sub_nid}
use Rattle.pst_subnode.specs.Left.{subs_left}
use Rattle.pst_subnode.proofs.DistinctLemmas.{fresh}
use Rattle.pst_subnode.proofs.check_list.stand_once.Given as goal

abbrev pub invariant-loop-sub : goal.invariant-loop-sub
invariant-loop-sub l = fresh (contains nat_cmp l.met) (map sub_nid (subs_left l.rest)) ≡ are_distinct (map sub_nid (subs_left l.subs))

abbrev pub decreases-loop-sub : goal.decreases-loop-sub
decreases-loop-sub l = length (subs_left l.rest)
