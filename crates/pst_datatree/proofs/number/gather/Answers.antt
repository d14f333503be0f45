use Rattle.std.proofs.Common.{arith, ◌≡◌, ◌+◌, length, sym, ap}
use Rattle.pst_datatree.proofs.SliceLemmas.{gathered, fewer_left}
use Rattle.pst_datatree.proofs.number.gather.Goals as goal

pub loop-slice-preserved : goal.loop-slice-preserved
loop-slice-preserved c = record {
  bytes =
      let copied : c.copy_from_slice.new.self ≡ c.in-Some.slice.now = c.copy_from_slice.ensures.after in
      gathered _ _ _ _ _ _ _ _ _ c.in-Some.ensures.steps.0 c.loop-slice.invariant.bytes (ap (λ w. c.loop-slice.count + length w) (sym copied)) (omega arith) copied;
  counted = fewer_left _ _ _ _ _ c.in-Some.ensures.steps.0 c.loop-slice.invariant.counted;
}
