use Rattle.std.proofs.Common.{◌≡◌, ◌++◌, drop, string_bytes}
use Rattle.std.specs.Prelude.{true}
use Rattle.pst_run.specs.Refusal.{path_text}
use Rattle.pst_run.proofs.line.with_path.Given as goal

-- the text so far, and the identifiers that are left behind it, are all
abbrev pub invariant-loop-nid : goal.invariant-loop-nid
invariant-loop-nid l = record {
  left : string_bytes l.text ++ path_text l.first (drop l.nid-index l.path) ≡ string_bytes l.initial.text ++ path_text true l.path;
}
