use Rattle.std.proofs.Common.{◌≡◌, Some, None, refl, sym, ◌∙◌}
use Rattle.std.proofs.lemmas.Result.{err_from_is_err_and}
use Rattle.pst_bytes.specs.Image.{bytes_of}
use Rattle.pst_fault.proofs.FirstLemmas.{answer_ok, answer_err}
use Rattle.pst_fault.proofs.EachLemmas.{each_next, each_fails}
use Rattle.pst_datatree.specs.Left.{spans_left}
use Rattle.pst_heap.specs.Fault.{page_map_fault}
use Rattle.pst_heap.proofs.check.check_spans.Goals as goal

pub returns-in_err-check_map : goal.returns-in_err-check_map
returns-in_err-check_map c =
    let p = err_from_is_err_and c.from_residual.result c.from_residual.ensures.1 in
    let part = page_map_fault (bytes_of c.args.image) in
    let f = c.in_err-check_map.field-0.0 in
    let failed : part c.in-Some.span ≡ Some f = answer_err (part c.in-Some.span) tt f c.in_err-check_map.ensures.exact in
    rw (p.1, p.2, each_fails part (spans_left c.loop-span.rest) (spans_left c.next_span.new.self) c.in-Some.span _ f c.in-Some.ensures.steps failed c.loop-span.invariant.left) (record { exact = refl })

pub loop-span-preserved : goal.loop-span-preserved
loop-span-preserved c =
    let part = page_map_fault (bytes_of c.args.image) in
    let passed : part c.in-Some.span ≡ None = (answer_ok (part c.in-Some.span) tt c.in_ok-check_map.field-0 (sym c.in_ok-check_map.ensures.exact)).0 in
    record {
      left = each_next part (spans_left c.loop-span.rest) (spans_left c.next_span.new.self) c.in-Some.span _ c.in-Some.ensures.steps passed c.loop-span.invariant.left;
      file = c.in-Some.ensures.file ∙ c.loop-span.invariant.file;
    }
