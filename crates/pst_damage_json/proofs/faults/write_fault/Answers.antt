use Rattle.std.proofs.Common.{◌≡◌, refl, subst, rules}
use Rattle.std.specs.Prelude.{codes}
use Rattle.serde_json.specs.Data.{Members, string, member, no_members}
use Rattle.pst_fault.specs.Kind.{number_of, kind_text}
use Rattle.pst_value_json.specs.Pen.{and_member}
use Rattle.pst_value_json.specs.pst_text.Names.{nid_data}
use Rattle.pst_value_json.specs.pst_text.Parts.{natural}
use Rattle.pst_value_json.proofs.PenLemmas.{begun}
use Rattle.pst_damage_json.specs.Faults.{fault_data}
use Rattle.pst_damage_json.proofs.faults.write_fault.Goals as goal

pub returns-clause-put : goal.returns-clause-put
unfolding fault_data
returns-clause-put g c =
    let f = c.args.fault.now in
    let named : c.deref.result.now ≡ kind_text f.kind = search rules in
    let at : Members = member (codes "at") (natural f.place.at) no_members in
    let bid : Members = and_member at (codes "bid") (natural f.place.bid) in
    let kind : Members = and_member bid (codes "kind") (string (kind_text f.kind)) in
    let nid : Members = and_member kind (codes "nid") (nid_data f.place.nid) in
    let first = begun g.P.Pen.Puts g.P.Pen.AtKey _ _ _ no_members (codes "at") (natural f.place.at) c.in_ok-first.ensures.put c.in_ok-leaf.ensures.put refl in
    let second = begun g.P.Pen.Puts g.P.Pen.AtKey _ _ _ at (codes "bid") (natural f.place.bid) (c.in_ok-next.ensures.put _ at first) c.in_ok-leaf-2.ensures.put refl in
    let third = begun g.P.Pen.Puts g.P.Pen.AtKey _ _ _ bid (codes "kind") (string (kind_text f.kind)) (c.in_ok-next-2.ensures.put _ bid second) (subst (λ s. g.P.Pen.Puts c.next-2.new.self c.leaf-3.new.self (string s)) named c.in_ok-leaf-3.ensures.put) refl in
    let fourth = begun g.P.Pen.Puts g.P.Pen.AtKey _ _ _ kind (codes "nid") (nid_data f.place.nid) (c.in_ok-next-3.ensures.put _ kind third) c.in_ok-leaf-4.ensures.put refl in
    let fifth = begun g.P.Pen.Puts g.P.Pen.AtKey _ _ _ nid (codes "number") (natural (number_of f.kind)) (c.in_ok-next-4.ensures.put _ nid fourth) (rw (c.from.ensures, c.number.ensures) at c.in_ok-leaf-5.ensures.put) refl in
    c.close.ensures.put _ _ fifth
