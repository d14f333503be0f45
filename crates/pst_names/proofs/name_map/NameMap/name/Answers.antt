use Rattle.std.proofs.Common.{◌≡◌, ◌/◌, sym, ap, subst, ◌∙◌}
use Rattle.std.specs.Prelude.{Some}
use Rattle.pst_ndb.specs.Views.{image_of_node, table_of_node, roots_of}
use Rattle.pst_names.specs.declared.fields.Fields.{Fields}
use Rattle.pst_names.specs.declared.streams.TheConstants.{GUIDS}
use Rattle.pst_names.specs.Streams.{stream_of, stream_bytes}
use Rattle.pst_names.specs.Entry.{guid_index}
use Rattle.pst_names.specs.Fault.{guids_count, strings_of}
use Rattle.pst_names.specs.Grammar.{IsEntry}
use Rattle.pst_names.specs.Name.{set_with, name_kind, naming_entry}
use Rattle.pst_names.specs.View.{node_of_names, kind_parts, IsKindLent}
use Rattle.pst_names.proofs.NameLaws.{named_entry}
use Rattle.pst_names.proofs.FoundLemmas.{fields_found, none_there, name_some, name_none, parts_are, text_asked}
use Rattle.pst_names.proofs.name_map.NameMap.name.Goals as goal

pub returns-in_default-clause-value : goal.returns-in_default-clause-value
returns-in_default-clause-value c =
    let node = node_of_names c.args.self.now in
    sym (name_none (table_of_node node) (roots_of node) c.args.id (none_there (naming_entry (table_of_node node) (roots_of node) c.args.id) c.in_default.ensures))

pub set-set-requires : goal.set-set-requires
set-set-requires c =
    let node = node_of_names c.args.self.now in
    let t = table_of_node node in
    let r = roots_of node in
    let w = fields_found (naming_entry t r c.args.id) c.in-Some.fields c.in-Some.ensures in
    let e = w.0 in
    let is : IsEntry (guids_count t r) (strings_of t r) e = named_entry t r c.args.id e c.args.self.now.sound w.1 in
    rw w.2 is.set

pub kind-kind-requires : goal.kind-kind-requires
kind-kind-requires c =
    let node = node_of_names c.args.self.now in
    let t = table_of_node node in
    let r = roots_of node in
    let w = fields_found (naming_entry t r c.args.id) c.in-Some.fields c.in-Some.ensures in
    let e = w.0 in
    let is : IsEntry (guids_count t r) (strings_of t r) e = named_entry t r c.args.id e c.args.self.now.sound w.1 in
    text_asked (guids_count t r) (strings_of t r) e c.in-Some.fields.id c.in-Some.fields.word (ap (λ (f : Fields). f.id) w.2) (ap (λ (f : Fields). f.word) w.2) is

pub returns-clause-value : goal.returns-clause-value
returns-clause-value c =
    let node = node_of_names c.args.self.now in
    let t = table_of_node node in
    let r = roots_of node in
    let w = fields_found (naming_entry t r c.args.id) c.in-Some.fields c.in-Some.ensures in
    let e = w.0 in
    let guids = stream_bytes (stream_of t r GUIDS) in
    let set : c.set-set.result ≡ set_with guids (guid_index e) = c.set-set.ensures ∙ ap (λ (f : Fields). set_with guids (f.word / 2)) w.2 in
    let kind : kind_parts c.kind-kind.result ≡ name_kind (strings_of t r) e = c.kind-kind.ensures.value e (ap (λ (f : Fields). f.id) (sym w.2)) (ap (λ (f : Fields). f.word) (sym w.2)) in
    ap (λ n. Some n) (parts_are guids (strings_of t r) e c.set-set.result (kind_parts c.kind-kind.result) set kind) ∙ sym (name_some t r c.args.id e w.1)

pub returns-clause-lent : goal.returns-clause-lent
returns-clause-lent c =
    let node = node_of_names c.args.self.now in
    let t = table_of_node node in
    let r = roots_of node in
    let w = fields_found (naming_entry t r c.args.id) c.in-Some.fields c.in-Some.ensures in
    (w.0, w.1, subst (λ (f : Fields). IsKindLent (image_of_node node) t r f.id c.kind-kind.result) w.2 c.kind-kind.ensures.lent)
