use Rattle.std.proofs.Common.{◌≡◌, ◌+◌, ◌*◌, ◌/◌, ◌<◌, ◌≤◌, List, ℕ, [], true, false, length, take, refl, sym, ap, subst, ◌∙◌, arith}
use Rattle.pst_bytes.specs.Image.{bytes_of, bytes_at}
use Rattle.pst_datatree.specs.Spans.{joined_bytes}
use Rattle.pst_ndb.specs.Views.{image_of_node, table_of_node, roots_of}
use Rattle.pst_pc.specs.View.{node_of_pc}
use Rattle.pst_names.specs.declared.streams.TheConstants.{ENTRIES}
use Rattle.pst_names.specs.Streams.{stream_spans}
use Rattle.pst_names.specs.Fault.{entries_fault}
use Rattle.pst_names.specs.Behind.{IsBehind, behind_spans}
use Rattle.pst_names.specs.Rest.{rest_file, rest_spans, front_span}
use Rattle.pst_names.specs.Known.{allows, AreAllowed, AreRunsTrue}
use Rattle.pst_names.specs.Strings.{rule_guids, rule_strings}
use Rattle.pst_names.proofs.RestLemmas.{same_place, front_some, front_fits}
use Rattle.pst_names.proofs.StreamLemmas.{all_left}
use Rattle.pst_names.proofs.WalkLemmas.{front_passes, front_fails, one_passes, one_fails, further, none_left}
use Rattle.pst_names.proofs.check.bad_place.Goals as goal

pub loop-number-init : goal.loop-number-init
loop-number-init c =
    let node = node_of_pc c.args.pc.now in
    let I = bytes_of (image_of_node node) in
    let all = stream_spans (table_of_node node) (roots_of node) ENTRIES in
    let g = rule_guids c.in_ok-rules.rules in
    let s = rule_strings c.in_ok-rules.rules in
    let count = c.len-count.result / 8 in
    let size : c.len-count.result ≡ length (joined_bytes I all) = c.len-count.ensures.bytes ∙ ap (λ (bs : List ℕ). length bs) (c.stream.ensures.bytes ∙ sym c.of-rest.ensures.bytes) in
    record {
      most = omega arith;
      behind = c.of-rest.ensures.behind;
      file = c.of-rest.ensures.file;
      left = all_left (table_of_node node) (roots_of node) I g s count c.in_ok-rules.ensures.guids c.in_ok-rules.ensures.strings c.of-rest.ensures.bytes (ap (λ n. n / 8) (c.len-count.ensures.bytes ∙ ap (λ (bs : List ℕ). length bs) c.stream.ensures.bytes));
      known = c.new-runs.ensures (allows g s) I;
    }

pub returns-then-not-allow-clause-first : goal.returns-then-not-allow-clause-first
returns-then-not-allow-clause-first c =
    let node = node_of_pc c.args.pc.now in
    let I = bytes_of (image_of_node node) in
    let all = stream_spans (table_of_node node) (roots_of node) ENTRIES in
    let g = rule_guids c.in_ok-rules.rules in
    let s = rule_strings c.in_ok-rules.rules in
    let count = c.len-count.result / 8 in
    let size : c.len-count.result ≡ length (joined_bytes I all) = c.len-count.ensures.bytes ∙ ap (λ (bs : List ℕ). length bs) (c.stream.ensures.bytes ∙ sym c.of-rest.ensures.bytes) in
    let l = c.loop-number in
    let h = c.settled-here.result in
    let front = h.front.now in
    let file : rest_file h ≡ I = c.settled-here.ensures.file ∙ l.invariant.file in
    let here : IsBehind I all (8 * l.number) (rest_spans h) =
    same_place I all (rest_spans l.rest) (rest_spans h) (8 * l.number) l.invariant.behind (subst (λ J. IsBehind J (rest_spans l.rest) 0 (rest_spans h)) l.invariant.file c.settled-here.ensures.behind) in
    let own : front ≡ bytes_at I (front_span h) = subst (λ J. front ≡ bytes_at J (front_span h)) file h.own in
    let more : 8 * l.number + 8 ≤ length (joined_bytes I all) = omega (arith, size, c.loop-number-test.true) in
    let fits : 8 * l.number + length front ≤ length (joined_bytes I all) = front_fits I front all (behind_spans h.behind) (8 * l.number) h.at here own (omega (arith, more)) in
    let some : 0 < length front =
    front_some I all (rest_spans l.rest) (8 * l.number) (length front) l.invariant.behind (subst (λ J. length front ≡ 0 → joined_bytes J (rest_spans l.rest) ≡ []) l.invariant.file c.settled-here.ensures.some) (omega (arith, more)) in
    let total = entries_fault (table_of_node node) (roots_of node) in
    let entry_is : c.entry.result.0 ≡ take 8 (joined_bytes I (rest_spans h)) = subst (λ J. c.entry.result.0 ≡ take 8 (joined_bytes J (rest_spans h))) file c.entry.ensures.bytes in
    let bad : allows g s (take 8 (joined_bytes I (rest_spans h))) ≡ false = ap (allows g s) (sym entry_is) ∙ sym c.allow.ensures ∙ c.if-not-allow.true in
    rw c.at.ensures (sym (one_fails I all g s l.number count (front_span h) (behind_spans h.behind) total here some more c.loop-number-test.true bad l.invariant.left))

pub loop-number-preserved-then-whole-eq0 : goal.loop-number-preserved-then-whole-eq0
loop-number-preserved-then-whole-eq0 c =
    let node = node_of_pc c.args.pc.now in
    let I = bytes_of (image_of_node node) in
    let all = stream_spans (table_of_node node) (roots_of node) ENTRIES in
    let g = rule_guids c.in_ok-rules.rules in
    let s = rule_strings c.in_ok-rules.rules in
    let count = c.len-count.result / 8 in
    let size : c.len-count.result ≡ length (joined_bytes I all) = c.len-count.ensures.bytes ∙ ap (λ (bs : List ℕ). length bs) (c.stream.ensures.bytes ∙ sym c.of-rest.ensures.bytes) in
    let l = c.loop-number in
    let h = c.settled-here.result in
    let front = h.front.now in
    let file : rest_file h ≡ I = c.settled-here.ensures.file ∙ l.invariant.file in
    let here : IsBehind I all (8 * l.number) (rest_spans h) =
    same_place I all (rest_spans l.rest) (rest_spans h) (8 * l.number) l.invariant.behind (subst (λ J. IsBehind J (rest_spans l.rest) 0 (rest_spans h)) l.invariant.file c.settled-here.ensures.behind) in
    let own : front ≡ bytes_at I (front_span h) = subst (λ J. front ≡ bytes_at J (front_span h)) file h.own in
    let more : 8 * l.number + 8 ≤ length (joined_bytes I all) = omega (arith, size, c.loop-number-test.true) in
    let fits : 8 * l.number + length front ≤ length (joined_bytes I all) = front_fits I front all (behind_spans h.behind) (8 * l.number) h.at here own (omega (arith, more)) in
    let some : 0 < length front =
    front_some I all (rest_spans l.rest) (8 * l.number) (length front) l.invariant.behind (subst (λ J. length front ≡ 0 → joined_bytes J (rest_spans l.rest) ≡ []) l.invariant.file c.settled-here.ensures.some) (omega (arith, more)) in
    let total = entries_fault (table_of_node node) (roots_of node) in
    let entry_is : c.entry.result.0 ≡ take 8 (joined_bytes I (rest_spans h)) = subst (λ J. c.entry.result.0 ≡ take 8 (joined_bytes J (rest_spans h))) file c.entry.ensures.bytes in
    let good : allows g s (take 8 (joined_bytes I (rest_spans h))) ≡ true = ap (allows g s) (sym entry_is) ∙ sym c.allow.ensures ∙ c.if-not-allow.false in
    let behind : IsBehind I (rest_spans h) 8 (rest_spans c.entry.result.1) = subst (λ J. IsBehind J (rest_spans h) 8 (rest_spans c.entry.result.1)) file c.entry.ensures.behind in
    record {
      most = omega (arith, c.loop-number-test.true);
      behind = further I all (rest_spans h) (rest_spans c.entry.result.1) l.number 1 8 (omega arith) here behind;
      file = c.entry.ensures.file ∙ file;
      left = one_passes I all g s l.number count (front_span h) (behind_spans h.behind) total here some more c.loop-number-test.true good l.invariant.left;
      known = l.invariant.known;
    }

pub returns-in-Some-clause-first : goal.returns-in-Some-clause-first
returns-in-Some-clause-first c =
    let node = node_of_pc c.args.pc.now in
    let I = bytes_of (image_of_node node) in
    let all = stream_spans (table_of_node node) (roots_of node) ENTRIES in
    let g = rule_guids c.in_ok-rules.rules in
    let s = rule_strings c.in_ok-rules.rules in
    let count = c.len-count.result / 8 in
    let size : c.len-count.result ≡ length (joined_bytes I all) = c.len-count.ensures.bytes ∙ ap (λ (bs : List ℕ). length bs) (c.stream.ensures.bytes ∙ sym c.of-rest.ensures.bytes) in
    let l = c.loop-number in
    let h = c.settled-here.result in
    let front = h.front.now in
    let file : rest_file h ≡ I = c.settled-here.ensures.file ∙ l.invariant.file in
    let here : IsBehind I all (8 * l.number) (rest_spans h) =
    same_place I all (rest_spans l.rest) (rest_spans h) (8 * l.number) l.invariant.behind (subst (λ J. IsBehind J (rest_spans l.rest) 0 (rest_spans h)) l.invariant.file c.settled-here.ensures.behind) in
    let own : front ≡ bytes_at I (front_span h) = subst (λ J. front ≡ bytes_at J (front_span h)) file h.own in
    let more : 8 * l.number + 8 ≤ length (joined_bytes I all) = omega (arith, size, c.loop-number-test.true) in
    let fits : 8 * l.number + length front ≤ length (joined_bytes I all) = front_fits I front all (behind_spans h.behind) (8 * l.number) h.at here own (omega (arith, more)) in
    let some : 0 < length front =
    front_some I all (rest_spans l.rest) (8 * l.number) (length front) l.invariant.behind (subst (λ J. length front ≡ 0 → joined_bytes J (rest_spans l.rest) ≡ []) l.invariant.file c.settled-here.ensures.some) (omega (arith, more)) in
    let total = entries_fault (table_of_node node) (roots_of node) in
    let le : l.number + length front / 8 ≤ count = omega (arith, size, fits) in
    rw c.at-in-Some.ensures (sym (front_fails I all g s front l.number c.in-Some.bad count (front_span h) (behind_spans h.behind) total here own refl le (rw c.in-Some.is at c.in_ok-bad.ensures.first) l.invariant.left))

pub loop-number-preserved : goal.loop-number-preserved
loop-number-preserved c =
    let node = node_of_pc c.args.pc.now in
    let I = bytes_of (image_of_node node) in
    let all = stream_spans (table_of_node node) (roots_of node) ENTRIES in
    let g = rule_guids c.in_ok-rules.rules in
    let s = rule_strings c.in_ok-rules.rules in
    let count = c.len-count.result / 8 in
    let size : c.len-count.result ≡ length (joined_bytes I all) = c.len-count.ensures.bytes ∙ ap (λ (bs : List ℕ). length bs) (c.stream.ensures.bytes ∙ sym c.of-rest.ensures.bytes) in
    let l = c.loop-number in
    let h = c.settled-here.result in
    let front = h.front.now in
    let file : rest_file h ≡ I = c.settled-here.ensures.file ∙ l.invariant.file in
    let here : IsBehind I all (8 * l.number) (rest_spans h) =
    same_place I all (rest_spans l.rest) (rest_spans h) (8 * l.number) l.invariant.behind (subst (λ J. IsBehind J (rest_spans l.rest) 0 (rest_spans h)) l.invariant.file c.settled-here.ensures.behind) in
    let own : front ≡ bytes_at I (front_span h) = subst (λ J. front ≡ bytes_at J (front_span h)) file h.own in
    let more : 8 * l.number + 8 ≤ length (joined_bytes I all) = omega (arith, size, c.loop-number-test.true) in
    let fits : 8 * l.number + length front ≤ length (joined_bytes I all) = front_fits I front all (behind_spans h.behind) (8 * l.number) h.at here own (omega (arith, more)) in
    let some : 0 < length front =
    front_some I all (rest_spans l.rest) (8 * l.number) (length front) l.invariant.behind (subst (λ J. length front ≡ 0 → joined_bytes J (rest_spans l.rest) ≡ []) l.invariant.file c.settled-here.ensures.some) (omega (arith, more)) in
    let total = entries_fault (table_of_node node) (roots_of node) in
    let le : l.number + length front / 8 ≤ count = omega (arith, size, fits) in
    let m = length c.front.result.now / 8 in
    let whole : m ≡ length front / 8 = ap (λ (bs : List ℕ). length bs / 8) c.front.ensures.bytes in
    let most : l.number + m ≤ count = rw whole le in
    let good : AreAllowed g s front = rw c.in-None.is at c.in_ok-bad.ensures.first in
    let behind : IsBehind I (rest_spans h) (8 * m) (rest_spans c.skip-rest.result) = subst (λ J. IsBehind J (rest_spans h) (8 * m) (rest_spans c.skip-rest.result)) file c.skip-rest.ensures.behind in
    record {
      most = most;
      behind = further I all (rest_spans h) (rest_spans c.skip-rest.result) l.number m (8 * m) refl here behind;
      file = c.skip-rest.ensures.file ∙ file;
      left = front_passes I all g s front l.number m count (front_span h) (behind_spans h.behind) total here own refl whole most good l.invariant.left;
      known = subst (λ J. AreRunsTrue (allows g s) J c.bad_in_front.new.runs) file c.in_ok-bad.ensures.known;
    }

pub returns-clause-first : goal.returns-clause-first
returns-clause-first c =
    let node = node_of_pc c.args.pc.now in
    let I = bytes_of (image_of_node node) in
    let all = stream_spans (table_of_node node) (roots_of node) ENTRIES in
    let g = rule_guids c.in_ok-rules.rules in
    let s = rule_strings c.in_ok-rules.rules in
    let count = c.len-count.result / 8 in
    let size : c.len-count.result ≡ length (joined_bytes I all) = c.len-count.ensures.bytes ∙ ap (λ (bs : List ℕ). length bs) (c.stream.ensures.bytes ∙ sym c.of-rest.ensures.bytes) in
    let l = c.loop-number in
    sym (none_left I all g s l.number count (entries_fault (table_of_node node) (roots_of node)) (omega (arith, c.loop-number-test.false)) l.invariant.left)
