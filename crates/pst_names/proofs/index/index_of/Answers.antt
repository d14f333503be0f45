use Rattle.std.proofs.Common.{◌≡◌, ◌+◌, ◌*◌, ◌/◌, ◌≤◌, List, ℕ, length, take, refl, sym, ap, subst, ◌∙◌, arith}
use Rattle.std.specs.Prelude.{option_map}
use Rattle.pst_bytes.specs.Image.{bytes_of, bytes_at}
use Rattle.pst_datatree.specs.Spans.{joined_bytes}
use Rattle.pst_ndb.specs.Views.{image_of_node, table_of_node, roots_of}
use Rattle.pst_pc.specs.View.{node_of_pc}
use Rattle.pst_names.specs.declared.streams.TheConstants.{ENTRIES}
use Rattle.pst_names.specs.Streams.{stream_spans, byte_place}
use Rattle.pst_names.specs.Entry.{entry_in, entry_with}
use Rattle.pst_names.specs.Behind.{IsBehind, behind_spans}
use Rattle.pst_names.specs.Index.{fields_in, naming_fields, is_noted}
use Rattle.pst_names.specs.Known.{AreRunsTrue}
use Rattle.pst_names.specs.Rest.{rest_file, rest_spans, front_span}
use Rattle.pst_names.proofs.EntryLemmas.{entry_left}
use Rattle.pst_names.proofs.FoundLemmas.{all_found}
use Rattle.pst_names.proofs.IndexLemmas.{fields_are, put_keeps, runs_stay, front_known, one_known, all_left, all_known}
use Rattle.pst_names.proofs.RestLemmas.{same_place, front_fits}
use Rattle.pst_names.proofs.WalkLemmas.{further}
use Rattle.pst_names.proofs.index.index_of.Goals as goal

pub loop-number-init : goal.loop-number-init
loop-number-init c =
    let node = node_of_pc c.args.pc.now in
    let t = table_of_node node in
    let r = roots_of node in
    let count = c.len-count.result / 8 in
    record {
      most = omega arith;
      behind = c.of-rest.ensures.behind;
      file = c.of-rest.ensures.file;
      left = λ id. all_left c.new-index.result id _ (c.new-index.ensures id)
          ∙ ap (option_map fields_in) (all_found t r (bytes_of (image_of_node node)) id count c.of-rest.ensures.bytes (ap (λ n. n / 8) (c.len-count.ensures.bytes ∙ ap (λ (bs : List ℕ). length bs) c.stream.ensures.bytes)));
      known = c.new-runs.ensures (is_noted c.new-index.result) (bytes_of (image_of_node node));
    }

pub loop-number-preserved-then-whole-eq0 : goal.loop-number-preserved-then-whole-eq0
loop-number-preserved-then-whole-eq0 c =
    let node = node_of_pc c.args.pc.now in
    let I = bytes_of (image_of_node node) in
    let all = stream_spans (table_of_node node) (roots_of node) ENTRIES in
    let entry = entry_with all (joined_bytes I all) in
    let count = c.len-count.result / 8 in
    let l = c.loop-number in
    let h = c.settled-here.result in
    let file : rest_file h ≡ I = c.settled-here.ensures.file ∙ l.invariant.file in
    let here : IsBehind I all (8 * l.number) (rest_spans h) =
    same_place I all (rest_spans l.rest) (rest_spans h) (8 * l.number) l.invariant.behind (subst (λ J. IsBehind J (rest_spans l.rest) 0 (rest_spans h)) l.invariant.file c.settled-here.ensures.behind) in
    let at = byte_place all (8 * l.number) in
    let read : c.entry.result.0 ≡ take 8 (joined_bytes I (rest_spans h)) = subst (λ J. c.entry.result.0 ≡ take 8 (joined_bytes J (rest_spans h))) file c.entry.ensures.bytes in
    let is : entry l.number ≡ entry_in at c.entry.result.0 = entry_left I all l.number (rest_spans h) here ∙ ap (entry_in at) (sym read) in
    let fields : c.of.result ≡ fields_in (entry_in at c.entry.result.0) = fields_are c.of.result at c.entry.result.0 c.of.ensures.id c.of.ensures.word c.of.ensures.index in
    let behind : IsBehind I (rest_spans h) 8 (rest_spans c.entry.result.1) = subst (λ J. IsBehind J (rest_spans h) 8 (rest_spans c.entry.result.1)) file c.entry.ensures.behind in
    record {
      most = omega (arith, c.loop-number-test.true);
      behind = further I all (rest_spans h) (rest_spans c.entry.result.1) l.number 1 8 (omega arith) here behind;
      file = c.entry.ensures.file ∙ file;
      left = λ id. one_known l.index c.put.new.self entry c.of.result l.number count id c.loop-number-test.true (fields ∙ ap fields_in (sym is)) (c.in_ok-put.ensures id) ∙ l.invariant.left id;
      known = runs_stay l.index c.put.new.self I l.runs (put_keeps l.index c.put.new.self c.of.result c.in_ok-put.ensures) l.invariant.known;
    }

pub loop-number-preserved : goal.loop-number-preserved
loop-number-preserved c =
    let node = node_of_pc c.args.pc.now in
    let I = bytes_of (image_of_node node) in
    let all = stream_spans (table_of_node node) (roots_of node) ENTRIES in
    let count = c.len-count.result / 8 in
    let size : c.len-count.result ≡ length (joined_bytes I all) = c.len-count.ensures.bytes ∙ ap (λ (bs : List ℕ). length bs) (c.stream.ensures.bytes ∙ sym c.of-rest.ensures.bytes) in
    let l = c.loop-number in
    let h = c.settled-here.result in
    let front = h.front.now in
    let file : rest_file h ≡ I = c.settled-here.ensures.file ∙ l.invariant.file in
    let here : IsBehind I all (8 * l.number) (rest_spans h) =
    same_place I all (rest_spans l.rest) (rest_spans h) (8 * l.number) l.invariant.behind (subst (λ J. IsBehind J (rest_spans l.rest) 0 (rest_spans h)) l.invariant.file c.settled-here.ensures.behind) in
    let own : front ≡ bytes_at I (front_span h) = subst (λ J. front ≡ bytes_at J (front_span h)) file h.own in
    let more : 8 * l.number + 8 ≤ length (joined_bytes I all) = omega (arith, size, c.loop-number-test.true) in
    let fits : 8 * l.number + length front ≤ length (joined_bytes I all) = front_fits I front all (behind_spans h.behind) (8 * l.number) h.at here own (omega (arith, more)) in
    let le : l.number + length front / 8 ≤ count = omega (arith, size, fits) in
    let m = length c.front.result.now / 8 in
    let whole : m ≡ length front / 8 = ap (λ (bs : List ℕ). length bs / 8) c.front.ensures.bytes in
    let most : l.number + m ≤ count = rw whole le in
    let behind : IsBehind I (rest_spans h) (8 * m) (rest_spans c.skip-rest.result) = subst (λ J. IsBehind J (rest_spans h) (8 * m) (rest_spans c.skip-rest.result)) file c.skip-rest.ensures.behind in
    record {
      most = most;
      behind = further I all (rest_spans h) (rest_spans c.skip-rest.result) l.number m (8 * m) refl here behind;
      file = c.skip-rest.ensures.file ∙ file;
      left = λ id. front_known I all l.index c.put_front.new.index front l.number m count id (front_span h) (behind_spans h.behind) here own refl whole most c.in_ok-put_front.ensures.noted ∙ l.invariant.left id;
      known = subst (λ J. AreRunsTrue (is_noted c.put_front.new.index) J c.put_front.new.runs) file c.in_ok-put_front.ensures.known;
    }

pub put_front-requires : goal.put_front-requires
put_front-requires c = record { known = subst (λ J. AreRunsTrue (is_noted c.loop-number.index) J c.loop-number.runs) (sym (c.settled-here.ensures.file ∙ c.loop-number.invariant.file)) c.loop-number.invariant.known }

pub returns : goal.returns
returns c =
    let node = node_of_pc c.args.pc.now in
    let I = bytes_of (image_of_node node) in
    let all = stream_spans (table_of_node node) (roots_of node) ENTRIES in
    let count = c.len-count.result / 8 in
    let l = c.loop-number in
    λ id. all_known l.index (entry_with all (joined_bytes I all)) l.number count id (naming_fields (table_of_node node) (roots_of node) id) (omega (arith, c.loop-number-test.false)) (l.invariant.left id)
