use Rattle.std.proofs.Common.{◌≡◌, ◌+◌, ◌++◌, length}
use Rattle.std.specs.Prelude.{take}
use Rattle.std.specs.List.{concat}
use Rattle.pst_datatree.specs.Slices.{slices_in}
use Rattle.pst_datatree.proofs.number.gather.Given as goal

abbrev pub invariant-loop-slice : goal.invariant-loop-slice
invariant-loop-slice l = record {
  bytes : take l.count l.bytes ++ concat (slices_in l.slice-iterator) ≡ concat (slices_in l.fn.slices);
  counted : l.count + length (concat (slices_in l.slice-iterator)) ≡ length (concat (slices_in l.fn.slices));
}
