use Rattle.std.proofs.Common.{◌≡◌, true, false, Some, None, refl, sym, ◌∙◌}
use Rattle.std.proofs.lemmas.Result.{err_from_is_err_and}
use Rattle.pst_fault.proofs.FirstLemmas.{answer_ok, answer_err}
use Rattle.pst_heap.specs.PageMap.{has_front}
use Rattle.pst_heap.specs.Values.{data_of_node}
use Rattle.pst_heap.specs.Fault.{page_map_fault}
use Rattle.pst_heap.proofs.AloneLemmas.{alone_front, alone_map}
use Rattle.pst_heap.proofs.alone.check_alone.Goals as goal

pub returns-then-not-has_front-clause-exact : goal.returns-then-not-has_front-clause-exact
returns-then-not-has_front-clause-exact c =
    let h = data_of_node c.args.node.now in
    let no : has_front h.image c.args.only ≡ false = cc in
    rw (c.bad_span.ensures, alone_front h c.args.only c.requires.only no) refl

pub returns-in_err-check_map-clause-exact : goal.returns-in_err-check_map-clause-exact
returns-in_err-check_map-clause-exact c =
    let p = err_from_is_err_and c.from_residual.result c.from_residual.ensures.1 in
    let h = data_of_node c.args.node.now in
    let s = c.args.only in
    let f = c.in_err-check_map.field-0.0 in
    let bad : page_map_fault h.image s ≡ Some f = answer_err (page_map_fault h.image s) tt f (rw c.image-2.ensures.bytes at c.in_err-check_map.ensures.exact) in
    let front : has_front h.image s ≡ true = cc in
    rw (p.1, p.2, alone_map h s c.requires.only front ∙ bad) refl

pub returns-clause-exact : goal.returns-clause-exact
returns-clause-exact c =
    let h = data_of_node c.args.node.now in
    let s = c.args.only in
    let good : page_map_fault h.image s ≡ None = (answer_ok (page_map_fault h.image s) tt c.in_ok-check_map.field-0 (sym (rw c.image-2.ensures.bytes at c.in_ok-check_map.ensures.exact))).0 in
    let front : has_front h.image s ≡ true = cc in
    rw (alone_map h s c.requires.only front ∙ good, c.requires.only) refl
