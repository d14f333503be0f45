use Rattle.std.proofs.Common.{rules, ◌∙◌}
use Rattle.pst_run.proofs.LineLemmas.{path_more, path_whole}
use Rattle.pst_run.proofs.line.with_path.Goals as goal

pub loop-nid-preserved : goal.loop-nid-preserved
loop-nid-preserved c = record {
  left = path_more _ _ _ _ c.loop-nid.first c.args.path.now c.loop-nid.nid-index 0 (search rules) c.in_ok-push_str.ensures.bytes (c.as_str.ensures.value ∙ c.in_ok-step.ensures)
      c.loop-nid.invariant.left;
}

pub returns : goal.returns
returns c = path_whole _ _ c.loop-nid.first c.args.path.now c.loop-nid.nid-index (search rules) c.loop-nid.invariant.left
