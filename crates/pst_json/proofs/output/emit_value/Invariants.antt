use Rattle.std.proofs.Common.{◌≤◌}
use Rattle.std.specs.List.{concat}
use Rattle.pst_value_json.specs.pst_datatree.Shown.{bytes_in}
use Rattle.pst_value_json.specs.pst_datatree.Slices.{slices_in}
use Rattle.pst_json.proofs.OutputLemmas.{Written}
use Rattle.pst_json.proofs.output.emit_value.Given as goal

-- the slices before are written, and the others are left
abbrev pub invariant-loop-slice : goal.invariant-loop-slice
invariant-loop-slice g l = record {
  tries : l.retries ≤ 1024;
  written : Written (g.W.Write.contents l.initial.out) (g.W.Write.contents l.out) (bytes_in l.fn.value) (concat (slices_in l.slice-iterator));
}
