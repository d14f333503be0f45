use Rattle.std.proofs.Common.{refl}
use Rattle.std.specs.Prelude.{codes}
use Rattle.serde_json.specs.Data.{Members, member, no_members}
use Rattle.pst_damage_json.specs.Faults.{fault_data}
use Rattle.pst_value_json.specs.pst_text.Names.{nid_data}
use Rattle.pst_value_json.proofs.PenLemmas.{begun}
use Rattle.pst_json.specs.Contents.{told_data}
use Rattle.pst_json.proofs.listed.write_told.Goals as goal

pub returns-clause-put : goal.returns-clause-put
unfolding told_data
returns-clause-put g c =
    let fault : Members = member (codes "fault") (fault_data c.args.fault.now) no_members in
    let first = begun g.P.Pen.Puts g.P.Pen.AtKey _ _ _ no_members (codes "fault") (fault_data c.args.fault.now) c.in_ok-first.ensures.put c.in_ok-write_fault.ensures.put refl in
    let second = begun g.P.Pen.Puts g.P.Pen.AtKey _ _ _ fault (codes "nid") (nid_data c.args.nid) (c.in_ok-next.ensures.put _ fault first) c.in_ok-leaf.ensures.put refl in
    c.close.ensures.put _ _ second
