use Rattle.std.proofs.Common.{◌≡◌, refl}
use Rattle.std.specs.Prelude.{codes, option_map, IfSome}
use Rattle.serde_json.specs.Data.{Members, member, no_members}
use Rattle.pst_ndb.specs.Views.{table_of_node, roots_of}
use Rattle.pst_intact.specs.View.{table_of_intact}
use Rattle.pst_value_json.specs.Pen.{and_member}
use Rattle.pst_value_json.specs.pst_pc.View.{node_of_pc}
use Rattle.pst_value_json.specs.pst_text.Names.{nid_data}
use Rattle.pst_value_json.proofs.PenLemmas.{begun}
use Rattle.pst_props.specs.declared.texts.TheConstants.{CLASS, SENDER, SUBJECT}
use Rattle.pst_json.specs.Contents.{text_there, listed_message_data}
use Rattle.pst_json.proofs.listed.write_listed.Goals as goal

pub returns-clause-put : goal.returns-clause-put
unfolding listed_message_data
returns-clause-put g c =
    let t = table_of_intact c.args.intact.now in
    let known : IfSome c.properties_of-pc.result (λ p. table_of_node (node_of_pc p) ≡ t) = c.properties_of-pc.ensures.table t c.in_ok-message.ensures.table in
    let r = option_map (λ p. roots_of (node_of_pc p)) c.properties_of-pc.result in
    let class : Members = member (codes "class") (text_there t r CLASS) no_members in
    let nid : Members = and_member class (codes "nid") (nid_data c.id-2.result) in
    let sender : Members = and_member nid (codes "sender") (text_there t r SENDER) in
    let first = begun g.P.Pen.Puts g.P.Pen.AtKey _ _ _ no_members (codes "class") (text_there t r CLASS) c.in_ok-first.ensures.put (c.in_ok-write_text_of.ensures.put t known) refl in
    let second = begun g.P.Pen.Puts g.P.Pen.AtKey _ _ _ class (codes "nid") (nid_data c.id-2.result) (c.in_ok-next.ensures.put _ class first) c.in_ok-leaf.ensures.put refl in
    let third = begun g.P.Pen.Puts g.P.Pen.AtKey _ _ _ nid (codes "sender") (text_there t r SENDER) (c.in_ok-next-2.ensures.put _ nid second) (c.in_ok-write_text_of-2.ensures.put t known) refl in
    let fourth = begun g.P.Pen.Puts g.P.Pen.AtKey _ _ _ sender (codes "subject") (text_there t r SUBJECT) (c.in_ok-next-3.ensures.put _ sender third) (c.in_ok-write_text_of-3.ensures.put t known) refl in
    rw (c.properties_of-pc.ensures.roots, c.in_ok-message.ensures.roots, c.id.ensures, c.id-2.ensures) at (c.close.ensures.put _ _ fourth)
