use Rattle.std.proofs.Common.{◌≡◌, ◌<◌, length, [], subst, ◌∙◌, arith, rules}
use Rattle.pst_datatree.specs.Spans.{joined_bytes}
use Rattle.pst_names.specs.Behind.{behind_spans, IsBehind}
use Rattle.pst_names.specs.Rest.{rest_file, rest_spans}
use Rattle.pst_names.proofs.RestLemmas.{joins, same_place, next_byte, front_some}
use Rattle.pst_names.proofs.rest.Rest.entry.Goals as goal

pub loop-i-preserved : goal.loop-i-preserved
loop-i-preserved c =
    let l = c.loop-i in
    let I = rest_file c.args.self in
    let all = rest_spans c.args.self in
    let h = c.settled-here.result in
    let file : rest_file h ≡ I = c.settled-here.ensures.file ∙ l.invariant.file in
    let here : IsBehind I all l.i (rest_spans h) = same_place I all (rest_spans l.rest) (rest_spans h) l.i l.invariant.behind (rw l.invariant.file at c.settled-here.ensures.behind) in
    let empty = subst (λ J. length h.front.now ≡ 0 → joined_bytes J (rest_spans l.rest) ≡ []) l.invariant.file c.settled-here.ensures.some in
    let some : 0 < length h.front.now = front_some I all (rest_spans l.rest) l.i (length h.front.now) l.invariant.behind empty (omega (arith, c.requires)) in
    record {
      room = search rules;
      read = next_byte I all l.i h.at 0 l.bytes h.front.now (behind_spans h.behind) here (rw file at h.own) some (omega arith) l.invariant.read;
      behind = joins I all (rest_spans h) (rest_spans c.skip-rest.result) l.i 1 here (rw file at c.skip-rest.ensures.behind);
      file = c.skip-rest.ensures.file ∙ file;
    }
