use Rattle.std.proofs.Common.{◌≡◌, refl, sym, subst, ◌∙◌}
use Rattle.std.specs.Prelude.{OnOk, codes, option_map}
use Rattle.serde_json.specs.Data.{Members, string, object, member, no_members}
use Rattle.pst_names.specs.View.{name_parts}
use Rattle.pst_pc.specs.View.{property_of}
use Rattle.pst_text.specs.Names.{id_text}
use Rattle.pst_value_json.specs.Pen.{and_member, and_member_if}
use Rattle.pst_value_json.specs.Places.{places_in, places_data, if_asked, member_if}
use Rattle.pst_value_json.specs.Props.{called_data, set_of_data, prop_data}
use Rattle.pst_value_json.specs.Value.{value_data}
use Rattle.pst_value_json.proofs.PenLemmas.{before_none, before_more, if_more, last_if, last_more, begun}
use Rattle.pst_value_json.proofs.write_prop.write_prop.Goals as goal

pub returns-clause-put : goal.returns-clause-put
unfolding prop_data
returns-clause-put g c =
    let p = property_of c.args.prop.now in
    let n = option_map called_data (option_map name_parts c.args.name.now) in
    let l = option_map places_data (if_asked c.args.places (places_in c.args.prop.now.value)) in
    let s = option_map set_of_data (option_map name_parts c.args.name.now) in
    let value : Members = member (codes "value") (value_data p.kind p.bytes) no_members in
    let kind : Members = member (codes "type") (string (id_text p.kind)) value in
    let one : Members = member (codes "id") (string (id_text p.id)) no_members in
    let named : Members = and_member_if one (codes "name") n in
    let placed : Members = and_member_if named (codes "places") l in
    let in_set : Members = and_member_if placed (codes "set") s in
    let typed : Members = and_member in_set (codes "type") (string (id_text p.kind)) in
    let first = begun g.P.Pen.Puts g.P.Pen.AtKey _ _ _ no_members (codes "id") (string (id_text p.id)) c.in_ok-first.ensures.put c.in_ok-leaf.ensures.put refl in
    let second = c.in_ok-write_name_member.ensures.put _ one first refl in
    let third = c.in_ok-write_places_member.ensures.put _ named second (last_if one (codes "name") (codes "places") n refl refl) in
    let fourth = c.in_ok-write_set_member.ensures.put _ placed third (last_if named (codes "places") (codes "set") l (last_if one (codes "name") (codes "set") n refl refl) refl) in
    let at_type = c.in_ok-next.ensures.put _ in_set fourth in
    let fifth = begun g.P.Pen.Puts g.P.Pen.AtKey _ _ _ in_set (codes "type") (string (id_text p.kind)) at_type c.in_ok-leaf-2.ensures.put
    (last_if placed (codes "set") (codes "type") s (last_if named (codes "places") (codes "type") l (last_if one (codes "name") (codes "type") n refl refl) refl) refl) in
    let at_value = c.in_ok-next-2.ensures.put _ typed fifth in
    let sixth = begun g.P.Pen.Puts g.P.Pen.AtKey _ _ _ typed (codes "value") (value_data p.kind p.bytes) at_value c.in_ok-write_value.ensures.put
    (last_more in_set (codes "type") (codes "value") (string (id_text p.kind))
    (last_if placed (codes "set") (codes "value") s (last_if named (codes "places") (codes "value") l (last_if one (codes "name") (codes "value") n refl refl) refl) refl) refl) in
    let same : and_member typed (codes "value") (value_data p.kind p.bytes) ≡ member (codes "id") (string (id_text p.id)) (member_if (codes "name") n (member_if (codes "places") l (member_if (codes "set") s kind))) =
    sym (before_none typed (codes "value") (value_data p.kind p.bytes)) ∙ before_more in_set (codes "type") (string (id_text p.kind)) value ∙ if_more placed (codes "set") s kind
    ∙ if_more named (codes "places") l (member_if (codes "set") s kind) ∙ if_more one (codes "name") n (member_if (codes "places") l (member_if (codes "set") s kind)) in
    subst (λ ms. OnOk c.close.result (g.P.Pen.Puts c.args.pen.now c.close.new.self (object ms))) same (c.close.ensures.put _ _ sixth)
