use Rattle.std.proofs.Common.{rules, ap, ◌∙◌}
use Rattle.std.specs.List.{concat}
use Rattle.pst_value_json.specs.pst_datatree.Shown.{bytes_in}
use Rattle.pst_value_json.specs.pst_datatree.Slices.{slices_in}
use Rattle.pst_json.proofs.OutputLemmas.{slices_begin, slice_written, slice_front, slices_end, front_of_all}
use Rattle.pst_json.proofs.output.emit_value.Goals as goal

pub loop-slice-init : goal.loop-slice-init
loop-slice-init g c =
    let bytes = ap (λ s. concat (slices_in s)) c.into_iter-slice-iterator.ensures.into_iter_gives ∙ c.slices-slice-items.ensures.bytes ∙ c.with_bytes.ensures.bytes in
    record { tries = search rules; written = slices_begin _ (bytes_in c.args.value) (slices_in c.into_iter-slice-iterator.result) bytes }

pub loop-slice-preserved : goal.loop-slice-preserved
loop-slice-preserved g c = record {
  tries = c.in_ok-write_all.ensures.few;
  written = slice_written _ _ _ (bytes_in c.args.value) _ _ _ c.in-Some.ensures.steps.0 c.loop-slice.invariant.written c.in_ok-write_all.ensures.all;
}

pub returns-in_err-write_all-clause-front : goal.returns-in_err-write_all-clause-front
returns-in_err-write_all-clause-front g c = slice_front _ _ _ (bytes_in c.args.value) _ _ _ c.in-Some.ensures.steps.0 c.loop-slice.invariant.written c.in_err-write_all.ensures.front

pub returns-clause-front : goal.returns-clause-front
returns-clause-front g c = front_of_all _ _ (bytes_in c.args.value) (slices_end _ _ (bytes_in c.args.value) _ c.in-None.ensures.steps.0.0 c.loop-slice.invariant.written)
