use Rattle.std.proofs.Common.{drop}
use Rattle.std.specs.Prelude.{true}
use Rattle.pst_run.specs.Refusal.{path_text}
use Rattle.pst_json.proofs.OutputLemmas.{Written}
use Rattle.pst_run.proofs.said.put_path.Given as goal

-- a front of the path is written, and its identifiers that are left are to come
abbrev pub invariant-loop-nid : goal.invariant-loop-nid
invariant-loop-nid g l = record {
  left : Written (g.E.Write.contents l.initial.err) (g.E.Write.contents l.err) (path_text true l.path) (path_text l.first (drop l.nid-index l.path));
}
