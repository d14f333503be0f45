-- Columns, one after another.
use Rattle.std.proofs.Common.{◌≡◌, ◌≢◌, ℕ, zero, suc, ◌+◌, ◌-◌, ◌<◌, ◌≤◌, Bool, true, false, cond, eqb, List, [], ◌∷◌, Some, None, refl, sym, arith}
use Rattle.std.proofs.lemmas.Bool.{eq-eqb, ne_eqb}
use Rattle.pst_bytes.specs.declared.span.Span.{Span}
use Rattle.pst_btree.specs.Entries.{first_with}
use Rattle.pst_tc.specs.Info.{column_count, column_place, columns_from, column_places, column_tag}
use Rattle.pst_tc.specs.Values.{ColumnParts, tag_of_column}

-- the first of those that are left
left_step : (s : Span) (i n : ℕ) → i < n → columns_from s i (n - i) ≡ column_place s i ∷ columns_from s (i + 1) (n - (i + 1))
unfolding columns_from
left_step s i n lt = let e : n - i ≡ suc (n - (i + 1)) = omega (arith, lt) in rw e refl

left_none : (s : Span) (n : ℕ) → columns_from s n (n - n) ≡ []
unfolding columns_from
left_none s n = let e : n - n ≡ 0 = omega arith in rw e refl

pub find_here : (I : List ℕ) (s : Span) (i n c tag : ℕ) → i < n → c ≡ column_place s i → column_tag I c ≡ tag → first_with (column_tag I) tag (columns_from s i (n - i)) ≡ Some c
unfolding first_with
find_here I s i n c tag lt is e = rw (left_step s i n lt, ← is, eq-eqb (column_tag I c) tag e) refl

pub find_later : (I : List ℕ) (s : Span) (i n c tag : ℕ) → i < n → c ≡ column_place s i → column_tag I c ≢ tag → first_with (column_tag I) tag (columns_from s i (n - i)) ≡ first_with (column_tag I) tag (columns_from s (i + 1) (n - (i + 1)))
unfolding first_with
find_later I s i n c tag lt is e = rw (left_step s i n lt, ← is, ne_eqb (column_tag I c) tag e) refl

pub find_end : (I : List ℕ) (s : Span) (n tag : ℕ) → first_with (column_tag I) tag (columns_from s n (n - n)) ≡ None
unfolding first_with
find_end I s n tag = rw (left_none s n) refl

-- what is found is a column with a number
abbrev IsNumbered : Span → ℕ → ℕ → ℕ → Type 0
IsNumbered s i n c = (j : ℕ) × (i ≤ j) × (j < i + n) × (c ≡ column_place s j)

numbered_later : (s : Span) (i n c : ℕ) → IsNumbered s (i + 1) n c → IsNumbered s i (suc n) c
numbered_later s i n c w = (w.0, omega (arith, w.1), omega (arith, w.2), w.3)

found_numbered : (I : List ℕ) (s : Span) (tag i n c : ℕ) → first_with (column_tag I) tag (columns_from s i n) ≡ Some c → IsNumbered s i n c
unfolding first_with columns_from
found_numbered I s tag i zero c e = absurd cc
found_numbered I s tag i (suc n) c e = by_test (eqb (column_tag I (column_place s i)) tag) (λ h. found_numbered I s tag (i + 1) n c h) e
  where
    by_test : (b : Bool) → (first_with (column_tag I) tag (columns_from s (i + 1) n) ≡ Some c → IsNumbered s (i + 1) n c)
        → cond b (Some (column_place s i)) (first_with (column_tag I) tag (columns_from s (i + 1) n)) ≡ Some c → IsNumbered s i (suc n) c
    by_test true later e = let same : column_place s i ≡ c = cc in (i, omega arith, omega arith, sym same)
    by_test false later e = numbered_later s i n c (later e)

pub found_place : (I : List ℕ) (s : Span) (tag c : ℕ) → first_with (column_tag I) tag (column_places I s) ≡ Some c → (j : ℕ) × (j < column_count I s) × (c ≡ column_place s j)
found_place I s tag c e = let w = found_numbered I s tag 0 (column_count I s) c e in (w.0, omega (arith, w.2), w.3)

-- a column before which none stands is the first with its tag
pub first_named : (all rest : List ColumnParts) (c : ColumnParts) → all ≡ c ∷ rest → first_with tag_of_column c.tag all ≡ Some c
unfolding first_with
first_named all rest c is = rw (is, eq-eqb c.tag c.tag refl) refl
