use Rattle.std.proofs.Common.{rules, [], ◌∷◌, ◌++◌}
use Rattle.std.proofs.KnownBytes.{Appends-trans}
use Rattle.std.specs.Prelude.{true}
use Rattle.pst_json.proofs.OutputLemmas.{front_behind, front_of_more}
use Rattle.pst_json.specs.Told.{doc_fault_text}
use Rattle.pst_run.specs.Refusal.{path_text}
use Rattle.pst_run.proofs.said.say_none.Goals as goal

pub returns-then-not-put : goal.returns-then-not-put
returns-then-not-put g c =
    let f = doc_fault_text c.args.fault in
    let p = path_text true c.args.path.now in
    front_of_more _ _ (f ++ p) (10 ∷ []) (front_of_more _ _ f p c.put.ensures.front)

pub returns-then-not-put_path : goal.returns-then-not-put_path
returns-then-not-put_path g c =
    let f = doc_fault_text c.args.fault in
    let p = path_text true c.args.path.now in
    front_of_more _ _ (f ++ p) (10 ∷ []) (front_behind _ _ _ f p (c.put.ensures.all (search rules)) c.put_path.ensures.front)

pub returns : goal.returns
returns g c =
    let f = doc_fault_text c.args.fault in
    let p = path_text true c.args.path.now in
    front_behind _ _ _ (f ++ p) (10 ∷ []) (Appends-trans _ _ _ f p (c.put.ensures.all (search rules)) (c.put_path.ensures.all (search rules))) c.emit.ensures.front
