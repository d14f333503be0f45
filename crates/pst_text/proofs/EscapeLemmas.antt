-- Texts between quotes, run by run.
use Rattle.std.proofs.Common.{◌≡◌, ℕ, true, ◌+◌, ◌-◌, ◌<◌, ◌≤◌, List, [], ◌∷◌, ◌++◌, length, take, drop, get_or, refl, sym, ap, ◌∙◌, append_assoc, append-nil}
use Rattle.std.specs.List.{prefix_len}
use Rattle.std.proofs.lemmas.Bool.{and_parts, or_parts, not-true, eqb-false, ltb-false}
use Rattle.std.proofs.lemmas.List.Folds.{list_all-append}
use Rattle.std.specs.Prelude.{◌||◌, ◌&&◌, ◌==◌}
use Rattle.json.specs.Print.{escape, escape_byte}
use Rattle.json.specs.Run.{is_plain}
use Rattle.serde_json.specs.Data.{string}
use Rattle.serde_json.specs.Written.{compact_text}
use Rattle.pst_text.specs.Quoted.{all_plain}
use Rattle.json.proofs.Printed.Strings.{escape_byte_plain, escape_to_stop, escape_at, escape_end}

-- a byte that needs no escape
pub plain_byte : (x : ℕ) → is_plain x ≡ true → escape_byte x ≡ x ∷ []
plain_byte x e =
    let none = or_parts ((x == 34) || (x == 92)) _ (not-true _ e) in
    let tests = or_parts (x == 34) _ none.0 in
    escape_byte_plain x (eqb-false x 34 tests.0) (eqb-false x 92 tests.1) (ltb-false x 32 none.1)

-- the bytes up to a place stand for themselves
run_put : (shown : List ℕ) (at end : ℕ) (text put whole : List ℕ) → end ≡ at + prefix_len is_plain (drop at shown) → put ≡ text ++ take (end - at) (drop at shown)
    → text ++ escape (drop at shown) ≡ whole → put ++ escape (drop end shown) ≡ whole
run_put shown at end text put whole is now so_far =
    ap (λ l. l ++ escape (drop end shown)) now ∙ append_assoc text (take (end - at) (drop at shown)) (escape (drop end shown))
    ∙ ap (λ l. text ++ l) (ap (λ l. take (end - at) (drop at shown) ++ l) (sym (append-nil (escape (drop end shown)))) ∙ sym (escape_to_stop shown at end [] is) ∙ append-nil (escape (drop at shown))) ∙ so_far

-- the run before a byte is put, and what stands for the byte
pub next_put : (shown : List ℕ) (at end : ℕ) (text run put whole : List ℕ) → end ≡ at + prefix_len is_plain (drop at shown) → end < length shown
    → run ≡ text ++ take (end - at) (drop at shown) → put ≡ run ++ escape_byte (get_or shown end 0)
    → text ++ escape (drop at shown) ≡ whole → put ++ escape (drop (end + 1) shown) ≡ whole
next_put shown at end text run put whole is inside ran now so_far =
    ap (λ l. l ++ escape (drop (end + 1) shown)) now ∙ append_assoc run (escape_byte (get_or shown end 0)) (escape (drop (end + 1) shown))
    ∙ ap (λ l. run ++ l) (ap (λ l. escape_byte (get_or shown end 0) ++ l) (sym (append-nil (escape (drop (end + 1) shown)))) ∙ sym (escape_at shown end [] inside) ∙ append-nil (escape (drop end shown)))
    ∙ run_put shown at end text run whole is ran so_far

-- the last run is put
pub last_put : (shown : List ℕ) (at end : ℕ) (text put whole : List ℕ) → end ≡ at + prefix_len is_plain (drop at shown) → length shown ≤ end
    → put ≡ text ++ take (end - at) (drop at shown) → text ++ escape (drop at shown) ≡ whole → put ≡ whole
last_put shown at end text put whole is all now so_far =
    sym (append-nil put) ∙ ap (λ l. put ++ l) (sym (sym (append-nil (escape (drop end shown))) ∙ escape_end shown end [] all)) ∙ run_put shown at end text put whole is now so_far

-- ---- bytes that all stand for themselves

pub all_escaped : (xs : List ℕ) → all_plain xs ≡ true → escape xs ≡ xs
all_escaped [] all = refl
all_escaped (x ∷ xs) all =
    let both = and_parts (is_plain x) (all_plain xs) all in
    ap (λ l. l ++ escape xs) (plain_byte x both.0) ∙ ap (λ l. x ∷ l) (all_escaped xs both.1)

pub plain_append : (xs ys : List ℕ) → all_plain xs ≡ true → all_plain ys ≡ true → all_plain (xs ++ ys) ≡ true
plain_append xs ys p q = list_all-append is_plain xs ys ∙ ap (λ b. b && all_plain ys) p ∙ q

-- they are put between quotes
pub plain_put : (xs text : List ℕ) → all_plain xs ≡ true → ((text ++ 34 ∷ []) ++ xs) ++ 34 ∷ [] ≡ text ++ compact_text (string xs)
plain_put xs text all =
    append_assoc (text ++ 34 ∷ []) xs (34 ∷ []) ∙ append_assoc text (34 ∷ []) (xs ++ 34 ∷ [])
    ∙ ap (λ l. text ++ (34 ∷ (l ++ 34 ∷ []))) (sym (all_escaped xs all))
