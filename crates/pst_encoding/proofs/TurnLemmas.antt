-- The inner steps of the cyclic algorithm, put together in a table.
use Rattle.std.proofs.Common.{◌≡◌, ℕ, ◌+◌, ◌/◌, ◌%◌, ◌<◌, [], ◌∷◌, ◌++◌, length, get_or, refl, sym, ap, ◌∙◌, arith}
use Rattle.std.proofs.lemmas.List.FromFn.{get_or-map-range_with_len, length-map-range_with_len, map-range_with_len_more}
use Rattle.pst_encoding.specs.Cyclic.{turned, turned_at, turns_of}

pub turns_none : turns_of 0 ≡ []
unfolding turns_of
turns_none = refl

pub turns_more : (n b : ℕ) → b ≡ turned (n / 256) (n % 256) → turns_of n ++ b ∷ [] ≡ turns_of (n + 1)
unfolding turns_of
turns_more n b is = ap (λ x. turns_of n ++ x ∷ []) is ∙ sym (map-range_with_len_more turned_at 0 n n (omega arith))

pub turns_long : (n : ℕ) → length (turns_of n) ≡ n
unfolding turns_of
turns_long n = length-map-range_with_len turned_at 0 n

pub turn_at : (n i : ℕ) → i < n → get_or (turns_of n) i 0 ≡ turned_at i
unfolding turns_of
turn_at n i lt = get_or-map-range_with_len turned_at 0 n i i 0 lt (omega arith)
