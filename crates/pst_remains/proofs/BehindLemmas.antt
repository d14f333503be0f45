-- The first page behind which a key lies, as a loop looks for it.
use Rattle.std.proofs.Common.{◌≡◌, ℕ, ◌+◌, ◌<◌, ◌≤◌, true, false, List, [], ◌∷◌, length, drop, get_or, Option, Some, None, refl, sym, ap, ◌∙◌}
use Rattle.std.proofs.lemmas.List.{drop_more}
use Rattle.pst_remains.specs.declared.pages.Broken.{Broken}
use Rattle.pst_remains.specs.Pages.{lies_behind, page_before}
use Rattle.pst_remains.proofs.NodeLemmas.{drop_past}

here : (b : Broken) (rest : List Broken) (key : ℕ) → lies_behind key b ≡ true → page_before (b ∷ rest) key ≡ Some b
unfolding page_before
here b rest key e = rw e refl

later : (b : Broken) (rest : List Broken) (key : ℕ) → lies_behind key b ≡ false → page_before (b ∷ rest) key ≡ page_before rest key
unfolding page_before
later b rest key e = rw e refl

nowhere : (key : ℕ) → page_before [] key ≡ None
unfolding page_before
nowhere key = refl

pub before_found : (broken : List Broken) (key i : ℕ) (d : Broken) (total : Option Broken) → i < length broken → lies_behind key (get_or broken i d) ≡ true → page_before (drop i broken) key ≡ total → Some (get_or broken i d) ≡ total
before_found broken key i d total lt e so_far =
    sym (here (get_or broken i d) (drop (i + 1) broken) key e) ∙ sym (ap (λ (xs : List Broken). page_before xs key) (drop_more broken i d lt)) ∙ so_far

pub before_next : (broken : List Broken) (key i : ℕ) (d : Broken) (total : Option Broken) → i < length broken → lies_behind key (get_or broken i d) ≡ false → page_before (drop i broken) key ≡ total → page_before (drop (i + 1) broken) key ≡ total
before_next broken key i d total lt e so_far =
    sym (later (get_or broken i d) (drop (i + 1) broken) key e) ∙ sym (ap (λ (xs : List Broken). page_before xs key) (drop_more broken i d lt)) ∙ so_far

pub before_done : (broken : List Broken) (key i : ℕ) (total : Option Broken) → length broken ≤ i → page_before (drop i broken) key ≡ total → None ≡ total
before_done broken key i total le so_far = sym (nowhere key) ∙ sym (ap (λ (xs : List Broken). page_before xs key) (drop_past broken i le)) ∙ so_far
