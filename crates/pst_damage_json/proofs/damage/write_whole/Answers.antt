use Rattle.std.proofs.Common.{refl}
use Rattle.std.specs.Prelude.{codes}
use Rattle.serde_json.specs.Data.{Members, member, no_members}
use Rattle.pst_value_json.specs.Pen.{and_member}
use Rattle.pst_value_json.specs.pst_text.Parts.{natural}
use Rattle.pst_value_json.proofs.PenLemmas.{begun}
use Rattle.pst_damage_json.specs.Damage.{whole_data}
use Rattle.pst_damage_json.proofs.damage.write_whole.Goals as goal

pub returns-clause-put : goal.returns-clause-put
unfolding whole_data
returns-clause-put g c =
    let w = c.args.whole.now in
    let folders : Members = member (codes "folders") (natural w.folders) no_members in
    let messages : Members = and_member folders (codes "messages") (natural w.messages) in
    let first = begun g.P.Pen.Puts g.P.Pen.AtKey _ _ _ no_members (codes "folders") (natural w.folders) c.in_ok-first.ensures.put c.in_ok-leaf.ensures.put refl in
    let second = begun g.P.Pen.Puts g.P.Pen.AtKey _ _ _ folders (codes "messages") (natural w.messages) (c.in_ok-next.ensures.put _ folders first) c.in_ok-leaf-2.ensures.put refl in
    let third = begun g.P.Pen.Puts g.P.Pen.AtKey _ _ _ messages (codes "nodes") (natural w.nodes) (c.in_ok-next-2.ensures.put _ messages second) c.in_ok-leaf-3.ensures.put refl in
    c.close.ensures.put _ _ third
