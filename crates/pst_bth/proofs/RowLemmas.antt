-- The records of an item, step by step.
use Rattle.std.proofs.Common.{◌≡◌, ℕ, zero, suc, ◌+◌, ◌-◌, ◌*◌, ◌<◌, ◌≤◌, List, [], ◌∷◌, ◌++◌, refl, ap, ◌∙◌, arith, true, ◌⊎◌, inl, inr}
use Rattle.pst_bytes.specs.declared.span.Span.{Span}
use Rattle.pst_page.specs.Page.{places}
use Rattle.pst_bth.specs.Rows.{is_key_size}
use Rattle.pst_bth.specs.Rows.{row_count, rows_at, rows_from}

pub rows_start : (size : ℕ) (s : Span) → rows_from size s 0 ≡ rows_at size s
unfolding rows_from rows_at
rows_start size s =
    let at : s.at + 0 * size ≡ s.at = omega arith in
    let n : row_count size s - 0 ≡ row_count size s = omega arith in
    rw (at, n) refl

pub rows_next : (size : ℕ) (s : Span) (i : ℕ) → i < row_count size s → rows_from size s i ≡ (s.at + i * size) ∷ rows_from size s (i + 1)
unfolding rows_from
rows_next size s i lt =
    let n : row_count size s - i ≡ suc (row_count size s - (i + 1)) = omega arith in
    let at : (s.at + i * size) + size ≡ s.at + (i + 1) * size = omega arith in
    rw (n, at) refl

pub rows_end : (size : ℕ) (s : Span) (i : ℕ) → row_count size s ≤ i → rows_from size s i ≡ []
unfolding rows_from
rows_end size s i le =
    let n : row_count size s - i ≡ 0 = omega arith in
    rw n refl

-- ---- how many bytes a key takes

pub key_size_is : (cb : ℕ) → (cb ≡ 2) ⊎ (cb ≡ 4) → is_key_size cb ≡ true
unfolding is_key_size
key_size_is cb (inl e) = rw e refl
key_size_is cb (inr e) = rw e refl

pub key_size_some : (cb : ℕ) → is_key_size cb ≡ true → 2 ≤ cb
unfolding is_key_size
key_size_some zero e = absurd cc
key_size_some (suc zero) e = absurd cc
key_size_some (suc (suc n)) e = omega arith

-- ---- divided at a record

places_split : (at width a b : ℕ) → places at width (a + b) ≡ places at width a ++ places (at + a * width) width b
places_split at width zero b =
    let n : zero + b ≡ b = omega arith in
    let p : at + 0 * width ≡ at = omega arith in
    rw (n, p) refl
places_split at width (suc a) b =
    let n : suc a + b ≡ suc (a + b) = omega arith in
    let p : (at + width) + a * width ≡ at + suc a * width = omega arith in
    rw n (ap (λ (xs : List ℕ). at ∷ xs) (places_split (at + width) width a b ∙ ap (λ (q : ℕ). places (at + width) width a ++ places q width b) p))

-- those before record i
unfoldable pub rows_before : ℕ → Span → ℕ → List ℕ
rows_before size s i = places s.at size i

pub rows_split : (size : ℕ) (s : Span) (i : ℕ) → i ≤ row_count size s → rows_at size s ≡ rows_before size s i ++ rows_from size s i
unfolding rows_at rows_from rows_before
rows_split size s i le =
    let n : row_count size s ≡ i + (row_count size s - i) = omega arith in
    ap (places s.at size) n ∙ places_split s.at size i (row_count size s - i)

pub rows_at_split : (size : ℕ) (s : Span) (i : ℕ) → i < row_count size s → rows_at size s ≡ rows_before size s i ++ (s.at + i * size) ∷ rows_from size s (i + 1)
rows_at_split size s i lt = rows_split size s i (omega arith) ∙ ap (λ (xs : List ℕ). rows_before size s i ++ xs) (rows_next size s i lt)

pub rows_before_none : (size : ℕ) (s : Span) → rows_before size s 0 ≡ []
unfolding rows_before
rows_before_none size s = refl

pub rows_before_next : (size : ℕ) (s : Span) (i : ℕ) → rows_before size s (i + 1) ≡ rows_before size s i ++ (s.at + i * size) ∷ []
unfolding rows_before
rows_before_next size s i = places_split s.at size i 1

pub rows_before_all : (size : ℕ) (s : Span) → rows_before size s (row_count size s) ≡ rows_at size s
unfolding rows_before rows_at
rows_before_all size s = refl
