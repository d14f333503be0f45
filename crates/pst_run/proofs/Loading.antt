-- What a loop of reads took.
use Rattle.std.proofs.Common.{◌≡◌, ◌<◌, ℕ, ◌+◌, List, ◌++◌, length, length-append, Option, Some, None, [], arith, ap, sym, subst, take, append-nil, ◌∙◌}
use Rattle.std.specs.Prelude.{IfSome}
use Rattle.std.specs.Io.KnownBytes.{Consumes, IsAtEnd}
use Rattle.std.proofs.KnownBytes.{Consumes-nil, Consumes-trans, Consumes-kept}

-- a reader that gave more than so many bytes had more
pub had_more : (n : ℕ) (a b : Option (List ℕ)) (bs : List ℕ) → Consumes a b bs → n < length bs → IfSome a (λ known. n < length known)
had_more n None b bs taken lt = tt
had_more n (Some xs) None bs taken lt = absurd taken
had_more n (Some xs) (Some ys) bs taken lt = omega (arith, ap length taken, length-append bs ys)

-- what a read gave beside what was there
pub had_more_than : (n : ℕ) (a b c : Option (List ℕ)) (bs cs : List ℕ) → Consumes a b bs → Consumes b c cs → n < length bs + length cs → IfSome a (λ known. n < length known)
had_more_than n a b c bs cs p q lt = had_more n a c (bs ++ cs) (Consumes-trans a b c bs cs p q) (omega (arith, length-append bs cs))

-- a reader that is at its end gave all that it had
gave_all : (a b c : Option (List ℕ)) (bs : List ℕ) → Consumes a b bs → Consumes b c [] → IsAtEnd c → IfSome a (λ known. bs ≡ known)
gave_all None b c bs p q at_end = tt
gave_all (Some xs) None c bs p q at_end = absurd p
gave_all (Some xs) (Some ys) None bs p q at_end = absurd q
gave_all (Some xs) (Some ys) (Some zs) bs p q at_end = sym (p ∙ ap (λ l. bs ++ l) (q ∙ at_end) ∙ append-nil bs)

-- a read of nothing came to the end
pub all_read : (a b c : Option (List ℕ)) (bs buf : List ℕ) (n : ℕ) → Consumes a b bs → n ≡ 0 → Consumes b c (take n buf) × (n ≡ 0 → 0 < length buf → IsAtEnd c) → 0 < length buf
    → IfSome a (λ known. bs ≡ known)
all_read a b c bs buf n p is q room = gave_all a b c bs p (subst (λ k. Consumes b c (take k buf)) is q.0) (q.1 is room)

pub ruleset loading = (Consumes-nil, Consumes-trans, Consumes-kept, had_more_than)
