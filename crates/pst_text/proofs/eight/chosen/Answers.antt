use Rattle.std.proofs.Common.{false, cond, ltb, length, get_or, replicate, ap, ◌∙◌, arith, w16}
use Rattle.std.proofs.lemmas.Bool.{lt-ltb, le-ltb}
use lib.Lanes.{zip2, sel_l}
use Rattle.std.proofs.lemmas.Simd.{tops_compared, length-zip2, length-sel_l, get_or-sel_l, get_or-zip2, get_or-replicate}
use Rattle.pst_text.proofs.eight.chosen.Goals as goal

pub returns-clause-long : goal.returns-clause-long
returns-clause-long c =
    let limits = replicate 8 c.args.limit in
    let long = length-zip2 ltb c.args.units limits c.requires.units in
    ap (λ ms. length (sel_l ms c.args.below c.args.other)) (tops_compared w16 ltb c.args.units limits)
    ∙ omega (arith, length-sel_l (zip2 ltb c.args.units limits) c.args.below c.args.other (omega (arith, long, c.requires)) (omega (arith, long, c.requires)), long, c.requires)

pub returns-clause-below : goal.returns-clause-below
returns-clause-below c k lt under =
    let limits = replicate 8 c.args.limit in
    let long = length-zip2 ltb c.args.units limits c.requires.units in
    let test = get_or-zip2 ltb c.args.units limits k 0 0 false (omega (arith, c.requires, lt)) lt ∙ ap (ltb (get_or c.args.units k 0)) (get_or-replicate 8 k c.args.limit 0 lt) ∙ lt-ltb (get_or c.args.units k 0) c.args.limit under in
    ap (λ ms. get_or (sel_l ms c.args.below c.args.other) k 0) (tops_compared w16 ltb c.args.units limits)
    ∙ get_or-sel_l (zip2 ltb c.args.units limits) c.args.below c.args.other k 0 (omega (arith, long, c.requires, lt)) (omega (arith, c.requires, lt)) (omega (arith, c.requires, lt))
    ∙ ap (λ t. cond t (get_or c.args.below k 0) (get_or c.args.other k 0)) test

pub returns-clause-other : goal.returns-clause-other
returns-clause-other c k lt over =
    let limits = replicate 8 c.args.limit in
    let long = length-zip2 ltb c.args.units limits c.requires.units in
    let test = get_or-zip2 ltb c.args.units limits k 0 0 false (omega (arith, c.requires, lt)) lt ∙ ap (ltb (get_or c.args.units k 0)) (get_or-replicate 8 k c.args.limit 0 lt) ∙ le-ltb (get_or c.args.units k 0) c.args.limit over in
    ap (λ ms. get_or (sel_l ms c.args.below c.args.other) k 0) (tops_compared w16 ltb c.args.units limits)
    ∙ get_or-sel_l (zip2 ltb c.args.units limits) c.args.below c.args.other k 0 (omega (arith, long, c.requires, lt)) (omega (arith, c.requires, lt)) (omega (arith, c.requires, lt))
    ∙ ap (λ t. cond t (get_or c.args.below k 0) (get_or c.args.other k 0)) test
