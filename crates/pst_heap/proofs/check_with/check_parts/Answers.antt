use Rattle.std.proofs.Common.{◌≡◌, ap, arith, refl}
use Rattle.std.specs.Prelude.{option_map}
use Rattle.std.proofs.lemmas.Result.{err_from_is_err_and}
use Rattle.pst_datatree.specs.Parts.{part_count}
use Rattle.pst_ndb.specs.Views.{table_of_node, data_bid_of}
use Rattle.pst_heap.specs.Fault.{told_of as told}
use Rattle.pst_heap.proofs.KnownLemmas.{parts_done, part_fails}
use Rattle.pst_heap.proofs.check_with.check_parts.Goals as goal

pub returns-in_err-check_part-clause-exact : goal.returns-in_err-check_part-clause-exact
returns-in_err-check_part-clause-exact c =
    let p = err_from_is_err_and c.from_residual.result c.from_residual.ensures.1 in
    let t = table_of_node c.args.node.now in
    let bid = data_bid_of c.args.node.now in
    let n : c.count-count.result ≡ part_count t bid = rw (c.parts-parts.ensures.table, c.parts-parts.ensures.tree) at c.count-count.ensures in
    let refused = rw c.parts-parts.ensures.tree at c.in_err-check_part.ensures.exact in
    rw (p.1, p.2) (part_fails (told c.args.node.now) t bid c.count-count.result c.loop-i.i _ c.parts-parts.ensures.joined n (omega arith) c.loop-i.invariant.sound refused)

pub returns-clause-exact : goal.returns-clause-exact
returns-clause-exact c =
    let t = table_of_node c.args.node.now in
    let bid = data_bid_of c.args.node.now in
    let n : c.count-count.result ≡ part_count t bid = rw (c.parts-parts.ensures.table, c.parts-parts.ensures.tree) at c.count-count.ensures in
    let all : c.loop-i.i ≡ c.count-count.result = omega arith in
    (ap (option_map (told c.args.node.now)) (parts_done t bid c.count-count.result c.parts-parts.ensures.joined n (rw all at c.loop-i.invariant.sound)), refl)
