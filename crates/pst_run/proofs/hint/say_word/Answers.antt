use Rattle.std.proofs.Common.{rules, subst, [], ◌∷◌, ◌++◌}
use Rattle.std.proofs.KnownBytes.{Appends-trans}
use Rattle.std.specs.Io.KnownBytes.{Appends}
use Rattle.std.specs.Prelude.{codes}
use Rattle.pst_json.proofs.OutputLemmas.{front_behind, front_of_more}
use Rattle.pst_json.specs.Output.{AppendsFront}
use Rattle.pst_run.specs.Hint.{form_text}
use Rattle.pst_run.proofs.hint.say_word.Goals as goal

pub returns-then-not-put_text : goal.returns-then-not-put_text
returns-then-not-put_text g c =
    let f = codes "  " in
    let w = c.args.word.now in
    let t = form_text c.args.lack in
    front_of_more _ _ ((f ++ w) ++ t) (10 ∷ []) (front_of_more _ _ (f ++ w) t (front_of_more _ _ f w c.put_text.ensures.front))

pub returns-then-not-put_text-2 : goal.returns-then-not-put_text-2
returns-then-not-put_text-2 g c =
    let f = codes "  " in
    let w = c.args.word.now in
    let t = form_text c.args.lack in
    front_of_more _ _ ((f ++ w) ++ t) (10 ∷ []) (front_of_more _ _ (f ++ w) t (front_behind _ _ _ f w (c.put_text.ensures.all (search rules)) c.put_text-2.ensures.front))

pub returns-then-not-put_text-3 : goal.returns-then-not-put_text-3
returns-then-not-put_text-3 g c =
    let f = codes "  " in
    let w = c.args.word.now in
    let t = form_text c.args.lack in
    let two = Appends-trans _ _ _ f w (c.put_text.ensures.all (search rules)) (c.put_text-2.ensures.all (search rules)) in
    let third = subst (λ b. AppendsFront (g.E.Write.contents c.put_text-2.new.err) (g.E.Write.contents c.put_text-3.new.err) b) c.form_of.ensures c.put_text-3.ensures.front in
    front_of_more _ _ ((f ++ w) ++ t) (10 ∷ []) (front_behind _ _ _ (f ++ w) t two third)

pub returns : goal.returns
returns g c =
    let f = codes "  " in
    let w = c.args.word.now in
    let t = form_text c.args.lack in
    let two = Appends-trans _ _ _ f w (c.put_text.ensures.all (search rules)) (c.put_text-2.ensures.all (search rules)) in
    let third = subst (λ b. Appends (g.E.Write.contents c.put_text-2.new.err) (g.E.Write.contents c.put_text-3.new.err) b) c.form_of.ensures (c.put_text-3.ensures.all (search rules)) in
    front_behind _ _ _ ((f ++ w) ++ t) (10 ∷ []) (Appends-trans _ _ _ (f ++ w) t two third) c.put_text-4.ensures.front
