-- Steps of walks, and what they leave claimed.
use Rattle.std.proofs.Common.{◌≡◌, List, [], ◌∷◌, ◌++◌, Some, None, Ok, Err, option_and_then, refl, inl}
use Rattle.pst_bytes.specs.declared.span.Span.{Span}
use Rattle.pst_space.specs.Claimed.{Claimed, claim_of, claim_all}
use Rattle.pst_space.specs.Step.{Step, ◌>>=◌, ClaimsSome}

-- two steps that go well
pub bind_ok : {A B : Type 0} (r : Step A) (f : A → Step B) (y : B) → (r >>= f) ≡ Ok y → (x : A) × (r ≡ Ok x) × (f x ≡ Ok y)
bind_ok (Ok x) f y e = (x, refl, e)
bind_ok (Err d) f y e = absurd cc

-- none of the spans is claimed
pub claims_none : (claimed : Claimed) (spans : List Span) → ClaimsSome claimed claimed spans
claims_none claimed [] = refl
claims_none claimed (s ∷ ss) = inl refl

-- claiming the first spans and then the others
pub claim_all-append : (claimed : Claimed) (xs ys : List Span) → claim_all claimed (xs ++ ys) ≡ option_and_then (λ next. claim_all next ys) (claim_all claimed xs)
claim_all-append claimed [] ys = refl
claim_all-append claimed (x ∷ xs) ys =
    elim (claim_of claimed x) as (λ o. option_and_then (λ next. claim_all next (xs ++ ys)) o ≡ option_and_then (λ next. claim_all next ys) (option_and_then (λ next. claim_all next xs) o)) [
      | None ↦ refl
      | Some c ↦ claim_all-append c xs ys
    ]
