use Rattle.std.proofs.Common.{arith}
use Rattle.pst_datatree.specs.Left.{spans_left, spans_from}
use Rattle.pst_datatree.proofs.CutLemmas.{size_behind}
use Rattle.pst_datatree.proofs.pieces.Pieces.after_part.Goals as goal

pub part_from-requires-clause-counted : goal.part_from-requires-clause-counted
part_from-requires-clause-counted c =
    let p = c.args.self in
    size_behind c.loop-span.skip p.left c.min-len.result c.in-Some.span (spans_from p c.in-Some.behind) (spans_from p c.loop-span.place) (spans_left p)
    c.if-skip-span.true (omega arith) c.min-len.ensures c.in-Some.ensures.next c.loop-span.invariant.same p.counted
