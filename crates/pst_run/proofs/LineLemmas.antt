-- A text with a path behind it, identifier by identifier.
use Rattle.std.proofs.Common.{◌≡◌, ◌∙◌, ◌+◌, ◌<◌, ◌≤◌, ap, sym, ℕ, List, ◌++◌, length, drop, get_or, append_assoc, append-nil}
use Rattle.std.specs.Prelude.{Bool, false}
use Rattle.pst_run.specs.Refusal.{path_text, step_text}
use Rattle.pst_run.proofs.SaidLemmas.{path_end, path_next}

-- one identifier more
pub path_more : (whole text this new : List ℕ) (first : Bool) (path : List ℕ) (i d : ℕ) → i < length path → new ≡ text ++ this → this ≡ step_text first (get_or path i d)
    → text ++ path_text first (drop i path) ≡ whole → new ++ path_text false (drop (i + 1) path) ≡ whole
path_more whole text this new first path i d inside more step is =
    let rest = path_text false (drop (i + 1) path) in
    ap (λ l. l ++ rest) (more ∙ ap (λ l. text ++ l) step) ∙ append_assoc text (step_text first (get_or path i d)) rest
    ∙ ap (λ l. text ++ l) (sym (path_next first path i d inside)) ∙ is

-- and all of them
pub path_whole : (whole text : List ℕ) (first : Bool) (path : List ℕ) (i : ℕ) → length path ≤ i → text ++ path_text first (drop i path) ≡ whole → text ≡ whole
path_whole whole text first path i outside is = sym (append-nil text) ∙ sym (ap (λ l. text ++ l) (path_end first path i outside)) ∙ is
