use Rattle.std.proofs.Common.{rules}
use Rattle.std.specs.Prelude.{true}
use Rattle.pst_run.specs.Refusal.{path_text}
use Rattle.pst_json.proofs.OutputLemmas.{front_of_all, written_none}
use Rattle.pst_run.proofs.SaidLemmas.{path_all, step_front, step_more}
use Rattle.pst_run.proofs.said.put_path.Goals as goal

pub loop-nid-init : goal.loop-nid-init
loop-nid-init g c = record { left = written_none _ (path_text true c.args.path.now) }

pub returns-then-not-put-clause-front : goal.returns-then-not-put-clause-front
returns-then-not-put-clause-front g c =
    step_front _ _ _ c.loop-nid.first c.args.path.now c.loop-nid.nid-index 0 (search rules) c.loop-nid.invariant.left c.put.ensures.front

pub loop-nid-preserved : goal.loop-nid-preserved
loop-nid-preserved g c = record {
  left = step_more _ _ _ c.loop-nid.first c.args.path.now c.loop-nid.nid-index 0 (search rules) c.loop-nid.invariant.left (c.put.ensures.all (search rules));
}

pub returns-clause-all : goal.returns-clause-all
returns-clause-all g c is = path_all _ _ c.loop-nid.first c.args.path.now c.loop-nid.nid-index (search rules) c.loop-nid.invariant.left

pub returns-clause-front : goal.returns-clause-front
returns-clause-front g c =
    front_of_all _ _ (path_text true c.args.path.now) (path_all _ _ c.loop-nid.first c.args.path.now c.loop-nid.nid-index (search rules) c.loop-nid.invariant.left)
