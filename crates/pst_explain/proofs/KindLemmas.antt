-- A kind by the word that names it.
use Rattle.std.proofs.Common.{◌≡◌, ◌<◌, ◌+◌, ℕ, Bool, true, false, List, length, drop, get_or, Option, Some, sym, ◌∙◌}
use Rattle.std.specs.Prelude.{find}
use Rattle.std.proofs.lemmas.List.{at_drop_more}

-- it is none of those before
pub find_next : {X : Type 0} (test : X → Bool) (xs : List X) (i : ℕ) (d : X) (whole : Option X) → i < length xs → test (get_or xs i d) ≡ false
    → find test (drop i xs) ≡ whole → find test (drop (i + 1) xs) ≡ whole
find_next test xs i d whole inside other so_far =
    let next = at_drop_more (find test) xs i d inside in
    sym (rw other at next) ∙ so_far

-- it is this one
pub find_here : {X : Type 0} (test : X → Bool) (xs : List X) (i : ℕ) (d : X) (whole : Option X) → i < length xs → test (get_or xs i d) ≡ true
    → find test (drop i xs) ≡ whole → Some (get_or xs i d) ≡ whole
find_here test xs i d whole inside here so_far =
    let next = at_drop_more (find test) xs i d inside in
    sym (rw here at next) ∙ so_far
