use Rattle.std.proofs.Common.{refl}
use Rattle.std.specs.Prelude.{codes}
use Rattle.serde_json.specs.Data.{Members, member, no_members}
use Rattle.pst_value_json.specs.pst_text.Parts.{natural}
use Rattle.pst_value_json.proofs.PenLemmas.{begun}
use Rattle.pst_json.specs.Check.{lost_data}
use Rattle.pst_json.proofs.check.write_lost.Goals as goal

pub returns-clause-put : goal.returns-clause-put
unfolding lost_data
returns-clause-put g c =
    let one : Members = member (codes "at") (natural c.args.run.at) no_members in
    let first = begun g.P.Pen.Puts g.P.Pen.AtKey _ _ _ no_members (codes "at") (natural c.args.run.at) c.in_ok-first.ensures.put c.in_ok-leaf.ensures.put refl in
    let second = begun g.P.Pen.Puts g.P.Pen.AtKey _ _ _ one (codes "len") (natural c.args.run.len) (c.in_ok-next.ensures.put _ one first) c.in_ok-leaf-2.ensures.put refl in
    c.close.ensures.put _ _ second
