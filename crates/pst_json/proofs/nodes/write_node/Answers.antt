use Rattle.std.proofs.Common.{refl}
use Rattle.std.specs.Prelude.{codes}
use Rattle.serde_json.specs.Data.{Members, member, no_members}
use Rattle.pst_value_json.specs.Pen.{and_member}
use Rattle.pst_value_json.specs.pst_text.Names.{nid_data}
use Rattle.pst_value_json.specs.pst_text.Parts.{natural}
use Rattle.pst_value_json.proofs.PenLemmas.{begun}
use Rattle.pst_json.specs.Nodes.{node_data}
use Rattle.pst_json.proofs.nodes.write_node.Goals as goal

pub returns-clause-put : goal.returns-clause-put
unfolding node_data
returns-clause-put g c =
    let entry = c.args.entry.now in
    let data_bid : Members = member (codes "data_bid") (natural entry.bid_data) no_members in
    let nid : Members = and_member data_bid (codes "nid") (nid_data entry.nid) in
    let parent : Members = and_member nid (codes "parent") (nid_data entry.parent) in
    let first = begun g.P.Pen.Puts g.P.Pen.AtKey _ _ _ no_members (codes "data_bid") (natural entry.bid_data) c.in_ok-first.ensures.put c.in_ok-leaf.ensures.put refl in
    let second = begun g.P.Pen.Puts g.P.Pen.AtKey _ _ _ data_bid (codes "nid") (nid_data entry.nid) (c.in_ok-next.ensures.put _ data_bid first) c.in_ok-leaf-2.ensures.put refl in
    let third = begun g.P.Pen.Puts g.P.Pen.AtKey _ _ _ nid (codes "parent") (nid_data entry.parent) (c.in_ok-next-2.ensures.put _ nid second) c.in_ok-leaf-3.ensures.put refl in
    let fourth = begun g.P.Pen.Puts g.P.Pen.AtKey _ _ _ parent (codes "sub_bid") (natural entry.bid_sub) (c.in_ok-next-3.ensures.put _ parent third) c.in_ok-leaf-4.ensures.put refl in
    c.close.ensures.put _ _ fourth
