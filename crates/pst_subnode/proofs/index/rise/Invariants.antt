use Rattle.std.proofs.Common.{◌≡◌, map}
use Rattle.pst_subnode.specs.Index.{nids_rise}
use Rattle.pst_subnode.specs.List.{sub_nid}
use Rattle.pst_subnode.specs.Left.{subs_left}
use Rattle.pst_subnode.proofs.index.rise.Given as goal

abbrev pub invariant-loop-sub : goal.invariant-loop-sub
invariant-loop-sub l = nids_rise l.end (map sub_nid (subs_left l.rest)) ≡ nids_rise 0 (map sub_nid (subs_left l.fn.subs))
