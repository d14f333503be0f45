use Rattle.std.proofs.Common.{◌≡◌, find, drop}
use Rattle.pst_explain.specs.Kinds.{is_named, kinds}
use Rattle.pst_explain.proofs.named.kind_in.Given as goal

-- none of the kinds before is named
abbrev pub invariant-loop-kind : goal.invariant-loop-kind
invariant-loop-kind l = record {
  all : l.kind-items ≡ kinds;
  left : find (is_named l.word) (drop l.kind-index l.kind-items) ≡ find (is_named l.word) kinds;
}
