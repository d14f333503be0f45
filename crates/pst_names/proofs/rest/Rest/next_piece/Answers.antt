use Rattle.std.proofs.Common.{◌≡◌, ◌∷◌, subst}
use Rattle.pst_bytes.specs.Image.{bytes_of, IsInside}
use Rattle.pst_datatree.specs.Left.{spans_left, file_of}
use Rattle.pst_names.specs.Behind.{behind_spans}
use Rattle.pst_names.specs.Rest.{rest_file, rest_spans}
use Rattle.pst_names.proofs.RestLemmas.{starts, next_behind}
use Rattle.pst_names.proofs.rest.Rest.next_piece.Goals as goal

pub returns-clause-behind : goal.returns-clause-behind
returns-clause-behind c =
    let r = c.args.self in
    let I = rest_file r in
    let b = c.in_ok-behind.behind in
    let file : bytes_of (file_of b) ≡ I = rw c.in_ok-behind.was at r.file in
    let left : behind_spans r.behind ≡ c.in_ok-span.span ∷ spans_left c.next_span.new.self = rw c.in_ok-behind.was c.in_ok-span.ensures.steps in
    let inside : IsInside I c.in_ok-span.span = subst (λ J. IsInside J c.in_ok-span.span) file c.in_ok-span.ensures.inside in
    next_behind I (rest_spans r) 0 r.at r.front.now c.slice.result.now c.in_ok-span.span (behind_spans r.behind) (spans_left c.next_span.new.self) (starts I (rest_spans r)) c.requires left c.slice.ensures.value inside
