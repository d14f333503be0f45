use Rattle.std.proofs.Common.{◌≡◌, ◌+◌, ◌≤◌, List, [], ◌∷◌, ◌++◌, ℕ, length, take, drop, sym, ap, subst, ◌∙◌, arith}
use Rattle.std.proofs.lemmas.List.Elements.{All-same, All-push}
use Rattle.pst_bytes.specs.Image.{bytes_of, bytes_at}
use Rattle.pst_datatree.specs.Shown.{bytes_in}
use Rattle.pst_datatree.specs.Spans.{joined_bytes}
use Rattle.pst_ndb.specs.Views.{image_of_node, table_of_node, roots_of}
use Rattle.pst_pc.specs.View.{node_of_pc}
use Rattle.pst_names.specs.declared.streams.TheConstants.{STRINGS}
use Rattle.pst_names.specs.Streams.{stream_spans}
use Rattle.pst_names.specs.Behind.{IsBehind, behind_spans}
use Rattle.pst_names.specs.Rest.{rest_file, rest_spans, front_span}
use Rattle.pst_names.specs.declared.stretch.Stretch.{Stretch}
use Rattle.pst_names.specs.Stretch.{IsStretchOf}
use Rattle.pst_names.proofs.RestLemmas.{joins, same_place, front_fits}
use Rattle.pst_names.proofs.StretchLemmas.{front_own}
use Rattle.pst_names.proofs.string_index.StringIndex.of.Goals as goal

pub loop-start-preserved : goal.loop-start-preserved
loop-start-preserved c =
    let node = node_of_pc c.args.pc.now in
    let I = bytes_of (image_of_node node) in
    let all = stream_spans (table_of_node node) (roots_of node) STRINGS in
    let l = c.loop-start in
    let h = c.settled-here.result in
    let front = h.front.now in
    let here_bytes : bytes_in c.stream-value.result ≡ joined_bytes I all = c.stream-value.ensures.bytes ∙ sym c.of-rest.ensures.bytes in
    let size : c.len-len.result ≡ length (joined_bytes I all) = c.len-len.ensures.bytes ∙ ap (λ (bs : List ℕ). length bs) here_bytes in
    let file : rest_file h ≡ I = c.settled-here.ensures.file ∙ l.invariant.file in
    let here : IsBehind I all l.start (rest_spans h) =
    same_place I all (rest_spans l.rest) (rest_spans h) l.start l.invariant.behind (subst (λ J. IsBehind J (rest_spans l.rest) 0 (rest_spans h)) l.invariant.file c.settled-here.ensures.behind) in
    let own : front ≡ bytes_at I (front_span h) = subst (λ J. front ≡ bytes_at J (front_span h)) file h.own in
    let fits : l.start + length front ≤ length (joined_bytes I all) = front_fits I front all (behind_spans h.behind) l.start h.at here own (omega (arith, size, l.invariant.most)) in
    let n = length c.front-bytes.result.now in
    let same : n ≡ length front = ap (λ (bs : List ℕ). length bs) c.front-bytes.ensures.bytes in
    let behind : IsBehind I (rest_spans h) n (rest_spans c.skip-rest.result) = subst (λ J. IsBehind J (rest_spans h) n (rest_spans c.skip-rest.result)) file c.skip-rest.ensures.behind in
    let stretch : front ≡ take (length front) (drop l.start (bytes_in c.stream-value.result)) =
    subst (λ bs. front ≡ take (length front) (drop l.start bs)) (sym here_bytes) (front_own I front all (behind_spans h.behind) l.start h.at here own) in
    let P : Stretch → Type 0 = λ s. IsStretchOf (bytes_in c.stream-value.result) s in
    let item : Stretch = record { start = l.start; bytes = c.front-bytes.result } in
    record {
      most = omega (arith, size, fits, same);
      behind = joins I all (rest_spans h) (rest_spans c.skip-rest.result) l.start n here behind;
      file = c.skip-rest.ensures.file ∙ file;
      are = All-same P c.push.new.self.items (l.stretches.items ++ item ∷ []) c.in_ok-push.ensures.items (All-push P l.stretches.items item l.invariant.are (rw c.front-bytes.ensures.bytes stretch));
    }
