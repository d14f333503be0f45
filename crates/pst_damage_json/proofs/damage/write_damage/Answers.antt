use Rattle.std.proofs.Common.{◌≡◌, refl, sym, subst, ◌∙◌}
use Rattle.std.specs.Prelude.{Option, OnOk, option_map, codes}
use Rattle.serde_json.specs.Data.{Data, Members, object, member, no_members}
use Rattle.pst_value_json.specs.Pen.{and_member, and_member_if}
use Rattle.pst_value_json.specs.pst_text.Parts.{list_data}
use Rattle.pst_value_json.specs.pst_text.Text.{hex_data}
use Rattle.pst_value_json.specs.Places.{member_if}
use Rattle.pst_value_json.proofs.PenLemmas.{begun, before_none, if_more, last_if}
use Rattle.pst_damage_json.specs.Damage.{broken_data, whole_data, damage_data}
use Rattle.pst_damage_json.specs.Faults.{fault_data, fault_or_null}
use Rattle.pst_damage_json.proofs.damage.write_damage.Goals as goal

pub returns-clause-put : goal.returns-clause-put
unfolding damage_data
returns-clause-put g c =
    let d = c.args.damage.now in
    let digest : Option Data = option_map hex_data c.args.digest in
    let whole : Data = whole_data d.whole in
    let blocks : Members = member (codes "blocks") (list_data fault_data d.blocks.items) no_members in
    let header : Members = and_member blocks (codes "header") (fault_or_null d.header) in
    let maps : Members = and_member header (codes "maps") (fault_or_null d.maps) in
    let nodes : Members = and_member maps (codes "nodes") (list_data broken_data d.nodes.items) in
    let pages : Members = and_member nodes (codes "pages") (list_data fault_data d.pages.items) in
    let sha256 : Members = and_member_if pages (codes "sha256") digest in
    let first = begun g.P.Pen.Puts g.P.Pen.AtKey _ _ _ no_members (codes "blocks") (list_data fault_data d.blocks.items) c.in_ok-first.ensures.put (rw c.deref.ensures.value at c.in_ok-write_faults.ensures.put) refl in
    let second = begun g.P.Pen.Puts g.P.Pen.AtKey _ _ _ blocks (codes "header") (fault_or_null d.header) (c.in_ok-next.ensures.put _ blocks first) c.in_ok-write_fault_or_null.ensures.put refl in
    let third = begun g.P.Pen.Puts g.P.Pen.AtKey _ _ _ header (codes "maps") (fault_or_null d.maps) (c.in_ok-next-2.ensures.put _ header second) c.in_ok-write_fault_or_null-2.ensures.put refl in
    let fourth = begun g.P.Pen.Puts g.P.Pen.AtKey _ _ _ maps (codes "nodes") (list_data broken_data d.nodes.items) (c.in_ok-next-3.ensures.put _ maps third) (rw c.deref-2.ensures.value at c.in_ok-write_nodes.ensures.put) refl in
    let fifth = begun g.P.Pen.Puts g.P.Pen.AtKey _ _ _ nodes (codes "pages") (list_data fault_data d.pages.items) (c.in_ok-next-4.ensures.put _ nodes fourth) (rw c.deref-3.ensures.value at c.in_ok-write_faults-2.ensures.put) refl in
    let sixth = c.in_ok-write_digest_member.ensures.put _ pages fifth refl in
    let seventh = begun g.P.Pen.Puts g.P.Pen.AtKey _ _ _ sha256 (codes "whole") whole (c.in_ok-next-5.ensures.put _ sha256 sixth) c.in_ok-write_whole.ensures.put (last_if pages (codes "sha256") (codes "whole") digest refl refl) in
    let same : and_member sha256 (codes "whole") whole
    ≡ member (codes "blocks") (list_data fault_data d.blocks.items) (member (codes "header") (fault_or_null d.header) (member (codes "maps") (fault_or_null d.maps)
    (member (codes "nodes") (list_data broken_data d.nodes.items) (member (codes "pages") (list_data fault_data d.pages.items) (member_if (codes "sha256") digest (member (codes "whole") whole no_members)))))) =
    sym (before_none sha256 (codes "whole") whole) ∙ if_more pages (codes "sha256") digest (member (codes "whole") whole no_members) in
    subst (λ ms. OnOk c.close.result (g.P.Pen.Puts c.args.pen.now c.close.new.self (object ms))) same (c.close.ensures.put _ _ seventh)
