use Rattle.std.proofs.Common.{◌≡◌, Some, None, sym, ap, inr}
use Rattle.std.specs.Prelude.{option_map}
use Rattle.std.proofs.lemmas.Result.{err_from_is_err_and}
use Rattle.pst_fault.proofs.FirstLemmas.{answer_ok, answer_err}
use Rattle.pst_datatree.specs.Spans.{first_span}
use Rattle.pst_heap.specs.Values.{data_of_node}
use Rattle.pst_heap.specs.Fault.{told_of as told}
use Rattle.pst_heap.specs.PageMaps.{start_fault}
use Rattle.pst_heap.proofs.KnownLemmas.{start_fails, maps_fail, heap_sound}
use Rattle.pst_heap.proofs.check_with.check_heap_with.Goals as goal

pub returns-in_err-check_maps_with-in-Ok-clause-exact : goal.returns-in_err-check_maps_with-in-Ok-clause-exact
returns-in_err-check_maps_with-in-Ok-clause-exact c =
    let p = err_from_is_err_and c.from_residual.result c.from_residual.ensures.1 in
    let d = data_of_node c.args.node in
    let start : start_fault d ≡ None = (answer_ok (start_fault d) (first_span d.spans) c.in-Ok.first (sym c.in-Ok.ensures.exact)).0 in
    rw (p.1, p.2) (maps_fail (told c.args.node) d _ start c.in_err-check_maps_with-in-Ok.ensures.exact)

pub with_first-requires-clause-sound : goal.with_first-requires-clause-sound
with_first-requires-clause-sound c =
    let d = data_of_node c.args.node in
    let start : start_fault d ≡ None = (answer_ok (start_fault d) (first_span d.spans) c.in-Ok.first (sym c.in-Ok.ensures.exact)).0 in
    heap_sound (told c.args.node) d start c.in_ok-check_maps_with-in-Ok.ensures.exact.0

pub returns-in-Err-clause-exact : goal.returns-in-Err-clause-exact
returns-in-Err-clause-exact c =
    let d = data_of_node c.args.node in
    let first : start_fault d ≡ Some c.in-Err.fault = answer_err (start_fault d) (first_span d.spans) c.in-Err.fault c.in-Err.ensures.exact in
    rw c.told_of.ensures (inr (start_fails (told c.args.node) d _ (ap (option_map (told c.args.node)) first)))
