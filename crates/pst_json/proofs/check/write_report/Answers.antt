use Rattle.std.proofs.Common.{◌≡◌, refl, sym, subst, ◌∙◌}
use Rattle.std.specs.Prelude.{Option, OnOk, option_map, codes}
use Rattle.serde_json.specs.Data.{Data, Members, object, member, no_members}
use Rattle.pst_value_json.specs.Pen.{and_member, and_member_if}
use Rattle.pst_value_json.specs.Places.{member_if}
use Rattle.pst_value_json.specs.pst_text.Parts.{natural, list_data}
use Rattle.pst_value_json.specs.pst_text.Text.{hex_data}
use Rattle.pst_value_json.proofs.PenLemmas.{begun, before_none, if_more, last_if}
use Rattle.pst_json.specs.Check.{lost_data, order_data, yes_data, check_data}
use Rattle.pst_json.proofs.check.write_report.Goals as goal

pub returns-clause-put : goal.returns-clause-put
unfolding check_data
returns-clause-put g c =
    let r = c.args.report.now in
    let runs : Data = list_data lost_data r.lost.items in
    let digest : Option Data = option_map hex_data c.args.digest in
    let blocks : Members = member (codes "blocks") (natural r.blocks) no_members in
    let folders : Members = and_member blocks (codes "folders") (natural r.folders) in
    let lost : Members = and_member folders (codes "lost") runs in
    let messages : Members = and_member lost (codes "messages") (natural r.messages) in
    let nodes : Members = and_member messages (codes "nodes") (natural r.nodes) in
    let order : Members = and_member nodes (codes "order") (order_data r.order) in
    let pages : Members = and_member order (codes "pages") (natural r.pages) in
    let sha256 : Members = and_member_if pages (codes "sha256") digest in
    let one = begun g.P.Pen.Puts g.P.Pen.AtKey _ _ _ no_members (codes "blocks") (natural r.blocks) c.in_ok-first.ensures.put c.in_ok-leaf.ensures.put refl in
    let two = begun g.P.Pen.Puts g.P.Pen.AtKey _ _ _ blocks (codes "folders") (natural r.folders) (c.in_ok-next.ensures.put _ blocks one) c.in_ok-leaf-2.ensures.put refl in
    let three = begun g.P.Pen.Puts g.P.Pen.AtKey _ _ _ folders (codes "lost") runs (c.in_ok-next-2.ensures.put _ folders two) (rw c.deref.ensures.value at c.in_ok-write_runs.ensures.put) refl in
    let four = begun g.P.Pen.Puts g.P.Pen.AtKey _ _ _ lost (codes "messages") (natural r.messages) (c.in_ok-next-3.ensures.put _ lost three) c.in_ok-leaf-3.ensures.put refl in
    let five = begun g.P.Pen.Puts g.P.Pen.AtKey _ _ _ messages (codes "nodes") (natural r.nodes) (c.in_ok-next-4.ensures.put _ messages four) c.in_ok-leaf-4.ensures.put refl in
    let six = begun g.P.Pen.Puts g.P.Pen.AtKey _ _ _ nodes (codes "order") (order_data r.order) (c.in_ok-next-5.ensures.put _ nodes five) (rw c.order_word.ensures at c.in_ok-leaf-5.ensures.put) refl in
    let seven = begun g.P.Pen.Puts g.P.Pen.AtKey _ _ _ order (codes "pages") (natural r.pages) (c.in_ok-next-6.ensures.put _ order six) c.in_ok-leaf-6.ensures.put refl in
    let eight = c.in_ok-write_digest_member.ensures.put _ pages seven refl in
    let nine = begun g.P.Pen.Puts g.P.Pen.AtKey _ _ _ sha256 (codes "verdict") yes_data (c.in_ok-next-7.ensures.put _ sha256 eight) c.in_ok-leaf-7.ensures.put (last_if pages (codes "sha256") (codes "verdict") digest refl refl) in
    let same : and_member sha256 (codes "verdict") yes_data
    ≡ member (codes "blocks") (natural r.blocks) (member (codes "folders") (natural r.folders) (member (codes "lost") runs (member (codes "messages") (natural r.messages)
    (member (codes "nodes") (natural r.nodes) (member (codes "order") (order_data r.order) (member (codes "pages") (natural r.pages) (member_if (codes "sha256") digest (member (codes "verdict") yes_data no_members)))))))) =
    sym (before_none sha256 (codes "verdict") yes_data) ∙ if_more pages (codes "sha256") digest (member (codes "verdict") yes_data no_members) in
    subst (λ ms. OnOk c.close.result (g.P.Pen.Puts c.args.pen.now c.close.new.self (object ms))) same (c.close.ensures.put _ _ nine)
