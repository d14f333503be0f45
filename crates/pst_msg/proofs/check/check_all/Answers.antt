use Rattle.pst_msg.proofs.CountLemmas.{grows_then}
use Rattle.pst_msg.proofs.GrowLemmas.{store_grows, root_grows, names_grow}
use Rattle.pst_msg.proofs.check.check_all.Goals as goal

pub returns-in_err-check_required-clause-grows : goal.returns-in_err-check_required-clause-grows
returns-in_err-check_required-clause-grows c = store_grows _ _ _ _ c.check_required.ensures.grows

pub returns-in_err-check_required-2-clause-grows : goal.returns-in_err-check_required-2-clause-grows
returns-in_err-check_required-2-clause-grows c = grows_then _ _ _ _ _ (store_grows _ _ _ _ c.check_required.ensures.grows) (root_grows _ _ _ _ c.check_required-2.ensures.grows)

pub returns-in_err-check_name_map-clause-grows : goal.returns-in_err-check_name_map-clause-grows
returns-in_err-check_name_map-clause-grows c =
    grows_then _ _ _ _ _ (grows_then _ _ _ _ _ (store_grows _ _ _ _ c.check_required.ensures.grows) (root_grows _ _ _ _ c.check_required-2.ensures.grows))
    (names_grow _ _ _ _ c.check_name_map.ensures.grows)

pub returns-clause-grows : goal.returns-clause-grows
returns-clause-grows c =
    grows_then _ _ _ _ _
    (grows_then _ _ _ _ _ (grows_then _ _ _ _ _ (store_grows _ _ _ _ c.check_required.ensures.grows) (root_grows _ _ _ _ c.check_required-2.ensures.grows))
    (names_grow _ _ _ _ c.check_name_map.ensures.grows))
    c.check_nodes.ensures.grows
