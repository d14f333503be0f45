use Rattle.std.proofs.Common.{◌≡◌, ◌∙◌, sym, ap, Some}
use Rattle.std.specs.Prelude.{option_map}
use Rattle.pst_btree.specs.Entries.{first_with}
use Rattle.pst_ndb.specs.Views.{table_of_node, roots_of}
use Rattle.pst_bth.specs.Values.{record_key, record_span}
use Rattle.pst_pc.specs.Values.{pc_records}
use Rattle.pst_bth.proofs.RecordLemmas.{found_span}
use Rattle.pst_pc.specs.View.{node_of_pc}
use Rattle.pst_pc.proofs.PcLemmas.{found_property}
use Rattle.pst_pc.proofs.pc.Pc.get.Goals as goal

pub returns-clause-value : goal.returns-clause-value
returns-clause-value c =
    let t = table_of_node (node_of_pc c.args.self.now) in
    let r = roots_of (node_of_pc c.args.self.now) in
    let found : Some c.in-Some.content ≡ option_map record_span (first_with record_key c.args.id (pc_records t r)) = rw (c.bth.ensures.records, c.from.ensures) at c.in-Some.ensures.value in
    ap Some c.prop.ensures.0 ∙ sym (found_property t r c.args.id c.in-Some.content found)

pub returns-clause-lent : goal.returns-clause-lent
returns-clause-lent c =
    let t = table_of_node (node_of_pc c.args.self.now) in
    let r = roots_of (node_of_pc c.args.self.now) in
    let found : Some c.in-Some.content ≡ option_map record_span (first_with record_key c.args.id (pc_records t r)) = rw (c.bth.ensures.records, c.from.ensures) at c.in-Some.ensures.value in
    ((c.args.id, c.in-Some.content), found_span c.args.id c.in-Some.content (pc_records t r) found, c.prop.ensures)
