use Rattle.std.proofs.Common.{refl}
use Rattle.std.specs.Prelude.{codes}
use Rattle.serde_json.specs.Data.{member, no_members}
use Rattle.pst_text.specs.Names.{nid_data}
use Rattle.pst_text.specs.Parts.{natural}
use Rattle.pst_value_json.proofs.MemberLemmas.{first_marked, next_marked, closed}
use Rattle.pst_value_json.proofs.put_values.put_nid_and_size.Goals as goal

pub returns-clause-put : goal.returns-clause-put
returns-clause-put c =
    let size = member (codes "size") (natural c.args.size) no_members in
    closed _ _ _ c.in_ok-push.ensures.items
    (next_marked (codes "size") (natural c.args.size) no_members _ _ _ _ refl c.in_ok-extend_from_slice-2.ensures.items (rw c.from.ensures at c.in_ok-put_natural.ensures.put)
    (first_marked (codes "nid") (nid_data c.args.nid) size _ _ _ refl c.in_ok-extend_from_slice.ensures.items c.in_ok-put_nid.ensures.put))
