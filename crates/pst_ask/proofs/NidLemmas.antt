-- The number that hexadecimal digits write.
use Rattle.std.proofs.Common.{◌≡◌, ℕ, ◌+◌, ◌*◌, ◌^◌, ◌<◌, ◌≤◌, Bool, true, List, length, drop, get_or, sym, ap, ◌∙◌, arith}
use Rattle.std.proofs.lemmas.List.{at_drop_more}
use Rattle.std.specs.List.{list_all}
use Rattle.std.specs.Char.{digit_value}
use Rattle.std.specs.Str.Parse.{digits_value_after}
use Rattle.pst_ask.specs.Nid.{is_hex}
use Rattle.std.proofs.lemmas.Nat.{pow-add}
use Rattle.std.proofs.Math.Nat.{pow-le-pow_right}

more : (i : ℕ) → 2 ^ (4 * (i + 1)) ≡ 2 ^ (4 * i) * 16
more i =
    let sum : 4 * (i + 1) ≡ 4 * i + 4 = omega arith in
    ap (λ k. 2 ^ k) sum ∙ pow-add 2 (4 * i) 4

-- one digit more
pub digits_grow : (n d i : ℕ) → n < 2 ^ (4 * i) → d < 16 → n * 16 + d < 2 ^ (4 * (i + 1))
digits_grow n d i low digit = let e = more i in omega (arith, e)

-- up to eight fit into 32 bits
pub digits_fit : (n i : ℕ) → n < 2 ^ (4 * i) → i ≤ 8 → n < 4294967296
digits_fit n i low few =
    let some : 0 < 2 = omega arith in
    let places : 4 * i ≤ 32 = omega arith in
    let most : 2 ^ (4 * i) ≤ 2 ^ 32 = pow-le-pow_right some places in
    omega (arith, most)

-- the number with the next digit, and what is left
pub number_next : (n v i d whole : ℕ) (digits : List ℕ) → i < length digits → v ≡ digit_value (get_or digits i d) → digits_value_after 16 n (drop i digits) ≡ whole
    → digits_value_after 16 (n * 16 + v) (drop (i + 1) digits) ≡ whole
number_next n v i d whole digits inside is so_far =
    ap (λ x. digits_value_after 16 (n * 16 + x) (drop (i + 1) digits)) is ∙ sym (at_drop_more (digits_value_after 16 n) digits i d inside) ∙ so_far

pub good_next : (i d : ℕ) (whole : Bool) (digits : List ℕ) → i < length digits → is_hex (get_or digits i d) ≡ true → list_all is_hex (drop i digits) ≡ whole
    → list_all is_hex (drop (i + 1) digits) ≡ whole
good_next i d whole digits inside good so_far =
    let next = at_drop_more (list_all is_hex) digits i d inside in
    sym (rw good at next) ∙ so_far
