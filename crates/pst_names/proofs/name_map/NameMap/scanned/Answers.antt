use Rattle.std.proofs.Common.{◌≡◌, ◌≢◌, ◌+◌, ◌*◌, ◌/◌, List, ℕ, length, take, sym, ap, subst, ◌∙◌, arith}
use Rattle.std.specs.Prelude.{Some, option_map}
use Rattle.pst_bytes.specs.Image.{bytes_of}
use Rattle.pst_datatree.specs.Spans.{joined_bytes}
use Rattle.pst_ndb.specs.Views.{image_of_node, table_of_node, roots_of}
use Rattle.pst_names.specs.declared.streams.TheConstants.{ENTRIES}
use Rattle.pst_names.specs.Streams.{stream_spans, byte_place}
use Rattle.pst_names.specs.Entry.{entry_in, entry_with, prop_id}
use Rattle.pst_names.specs.Index.{fields_in}
use Rattle.pst_names.specs.Name.{naming_entry}
use Rattle.pst_names.specs.Behind.{IsBehind}
use Rattle.pst_names.specs.Rest.{rest_spans}
use Rattle.pst_names.specs.View.{node_of_names}
use Rattle.pst_names.proofs.EntryLemmas.{entry_left}
use Rattle.pst_names.proofs.FoundLemmas.{other_passes, one_found, none_found, all_found}
use Rattle.pst_names.proofs.IndexLemmas.{fields_are}
use Rattle.pst_names.proofs.WalkLemmas.{further}
use Rattle.pst_names.proofs.name_map.NameMap.scanned.Goals as goal

pub loop-number-init : goal.loop-number-init
loop-number-init c =
    let node = node_of_names c.args.self.now in
    let t = table_of_node node in
    let r = roots_of node in
    record {
      most = omega arith;
      behind = c.of-rest.ensures.behind;
      file = c.of-rest.ensures.file;
      left = all_found t r (bytes_of (image_of_node node)) c.args.id (c.len-count.result / 8) c.of-rest.ensures.bytes (ap (λ n. n / 8) (c.len-count.ensures.bytes ∙ ap (λ (bs : List ℕ). length bs) c.stream.ensures.bytes));
    }

pub returns-then-is_for : goal.returns-then-is_for
returns-then-is_for c =
    let node = node_of_names c.args.self.now in
    let I = bytes_of (image_of_node node) in
    let all = stream_spans (table_of_node node) (roots_of node) ENTRIES in
    let entry = entry_with all (joined_bytes I all) in
    let total = naming_entry (table_of_node node) (roots_of node) c.args.id in
    let count = c.len-count.result / 8 in
    let l = c.loop-number in
    let at = byte_place all (8 * l.number) in
    let bytes : c.entry.result.0 ≡ take 8 (joined_bytes I (rest_spans l.rest)) = subst (λ J. c.entry.result.0 ≡ take 8 (joined_bytes J (rest_spans l.rest))) l.invariant.file c.entry.ensures.bytes in
    let is : entry l.number ≡ entry_in at c.entry.result.0 = entry_left I all l.number (rest_spans l.rest) l.invariant.behind ∙ ap (entry_in at) (sym bytes) in
    let key : prop_id (entry l.number) ≡ 0x8000 + c.of-fields.result.index = ap prop_id is ∙ ap (λ n. 0x8000 + n) (sym c.of-fields.ensures.index) in
    let same : prop_id (entry l.number) ≡ c.args.id = key ∙ c.is_for.ensures.0 c.if-is_for.true in
    let fields : c.of-fields.result ≡ fields_in (entry_in at c.entry.result.0) = fields_are c.of-fields.result at c.entry.result.0 c.of-fields.ensures.id c.of-fields.ensures.word c.of-fields.ensures.index in
    ap (λ f. Some f) (fields ∙ ap fields_in (sym is)) ∙ sym (ap (option_map fields_in) (one_found prop_id c.args.id entry l.number count total c.loop-number-test.true same l.invariant.left))

pub loop-number-preserved : goal.loop-number-preserved
loop-number-preserved c =
    let node = node_of_names c.args.self.now in
    let I = bytes_of (image_of_node node) in
    let all = stream_spans (table_of_node node) (roots_of node) ENTRIES in
    let entry = entry_with all (joined_bytes I all) in
    let total = naming_entry (table_of_node node) (roots_of node) c.args.id in
    let count = c.len-count.result / 8 in
    let l = c.loop-number in
    let bytes : c.entry.result.0 ≡ take 8 (joined_bytes I (rest_spans l.rest)) = subst (λ J. c.entry.result.0 ≡ take 8 (joined_bytes J (rest_spans l.rest))) l.invariant.file c.entry.ensures.bytes in
    let is : entry l.number ≡ entry_in (byte_place all (8 * l.number)) c.entry.result.0 = entry_left I all l.number (rest_spans l.rest) l.invariant.behind ∙ ap (entry_in (byte_place all (8 * l.number))) (sym bytes) in
    let key : prop_id (entry l.number) ≡ 0x8000 + c.of-fields.result.index = ap prop_id is ∙ ap (λ n. 0x8000 + n) (sym c.of-fields.ensures.index) in
    let other : prop_id (entry l.number) ≢ c.args.id = λ same. absurd (let yes = c.is_for.ensures.1 (sym key ∙ same) in cc) in
    let behind : IsBehind I (rest_spans l.rest) 8 (rest_spans c.entry.result.1) = subst (λ J. IsBehind J (rest_spans l.rest) 8 (rest_spans c.entry.result.1)) l.invariant.file c.entry.ensures.behind in
    record {
      most = omega (arith, c.loop-number-test.true);
      behind = further I all (rest_spans l.rest) (rest_spans c.entry.result.1) l.number 1 8 (omega arith) l.invariant.behind behind;
      file = c.entry.ensures.file ∙ l.invariant.file;
      left = other_passes prop_id c.args.id entry l.number count total c.loop-number-test.true other l.invariant.left;
    }

pub returns : goal.returns
returns c =
    let node = node_of_names c.args.self.now in
    let I = bytes_of (image_of_node node) in
    let all = stream_spans (table_of_node node) (roots_of node) ENTRIES in
    let entry = entry_with all (joined_bytes I all) in
    let total = naming_entry (table_of_node node) (roots_of node) c.args.id in
    let count = c.len-count.result / 8 in
    let l = c.loop-number in
    sym (ap (option_map fields_in) (none_found prop_id c.args.id entry l.number count total (omega (arith, c.loop-number-test.false)) l.invariant.left))
