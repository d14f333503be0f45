-- Steps of a path, one after another.
use Rattle.std.proofs.Common.{◌≡◌, ◌+◌, ◌<◌, ◌≤◌, ℕ, List, [], ◌∷◌, length, drop, get_or, Option, Some, None, refl, sym, ap, ◌∙◌}
use Rattle.std.specs.Prelude.{fold}
use Rattle.std.proofs.lemmas.List.{at_drop_more, drop_all}
use Rattle.pst_block.specs.Table.{Table}
use Rattle.pst_props.specs.Path.{Place, step, step_from}

-- from nowhere no step leads anywhere
pub nowhere : (t : Table) (steps : List ℕ) → fold (step t) None steps ≡ None
nowhere t [] = refl
nowhere t (nid ∷ rest) = nowhere t rest

-- one step more
pub step_on : (t : Table) (steps : List ℕ) (i d : ℕ) (from to : Place) (whole : Option Place) → i < length steps → Some to ≡ step_from t from (get_or steps i d)
    → whole ≡ fold (step t) (Some from) (drop i steps) → whole ≡ fold (step t) (Some to) (drop (i + 1) steps)
step_on t steps i d from to whole inside is so_far =
    so_far ∙ at_drop_more (fold (step t) (Some from)) steps i d inside ∙ ap (λ p. fold (step t) p (drop (i + 1) steps)) (sym is)

-- one that leads nowhere
pub step_nowhere : (t : Table) (steps : List ℕ) (i d : ℕ) (from : Place) (whole : Option Place) → i < length steps → None ≡ step_from t from (get_or steps i d)
    → whole ≡ fold (step t) (Some from) (drop i steps) → whole ≡ None
step_nowhere t steps i d from whole inside is so_far =
    so_far ∙ at_drop_more (fold (step t) (Some from)) steps i d inside ∙ ap (λ p. fold (step t) p (drop (i + 1) steps)) (sym is) ∙ nowhere t (drop (i + 1) steps)

-- none is left
pub steps_end : (t : Table) (steps : List ℕ) (i : ℕ) (at : Place) (whole : Option Place) → length steps ≤ i → whole ≡ fold (step t) (Some at) (drop i steps) → whole ≡ Some at
steps_end t steps i at whole outside so_far = so_far ∙ ap (fold (step t) (Some at)) (drop_all i steps outside)
