-- The rest of a list from a key on.
use Rattle.std.proofs.Common.{◌≡◌, ℕ, ◌+◌, ◌-◌, ◌<◌, ◌≤◌, Bool, true, false, cond, leb, List, [], ◌∷◌, ◌++◌, map, Option, Some, refl, sym, ap, subst, ◌∙◌, arith, append_assoc}
use Rattle.std.proofs.lemmas.Bool.{le-leb, lt-leb, ltb-true}
use Rattle.pst_bytes.specs.declared.span.Span.{Span}
use Rattle.pst_btree.specs.Order.{Rises}
use Rattle.pst_bth.specs.Rows.{row_key, row_count, row_place, rows_at, rows_from}
use Rattle.pst_bth.specs.Find.{rows_from_key, IsUpToKey}
use Rattle.pst_bth.proofs.KeyLemmas.{IsAbove, rises_front, rises_back, from_first}
use Rattle.pst_bth.proofs.RowLemmas.{rows_start, rows_next, rows_end, rows_before, rows_split, rows_at_split}
use Rattle.pst_bth.proofs.FindLemmas.{above_from}

module _ (I : List ℕ) (cb : ℕ) where
  pub rest_append : (low : ℕ) (xs ys : List ℕ) → rows_from_key I cb low (xs ++ ys) ≡ rows_from_key I cb low xs ++ rows_from_key I cb low ys
  rest_append low [] ys = refl
  rest_append low (x ∷ xs) ys = by_test (leb low (row_key I cb x)) (rest_append low xs ys)
    where
      by_test : (t : Bool) → rows_from_key I cb low (xs ++ ys) ≡ rows_from_key I cb low xs ++ rows_from_key I cb low ys
          → cond t (x ∷ rows_from_key I cb low (xs ++ ys)) (rows_from_key I cb low (xs ++ ys)) ≡ cond t (x ∷ rows_from_key I cb low xs) (rows_from_key I cb low xs) ++ rows_from_key I cb low ys
      by_test true ih = ap (λ (zs : List ℕ). x ∷ zs) ih
      by_test false ih = ih

  -- where the front has nothing
  pub rest_skip : (low : ℕ) (xs ys : List ℕ) → rows_from_key I cb low xs ≡ [] → rows_from_key I cb low (xs ++ ys) ≡ rows_from_key I cb low ys
  rest_skip low xs ys e = rest_append low xs ys ∙ ap (λ (zs : List ℕ). zs ++ rows_from_key I cb low ys) e

  -- all keys are lower
  pub rest_lower : (low least high : ℕ) (xs : List ℕ) → high ≤ low → Rises least (Some high) (map (row_key I cb) xs) → rows_from_key I cb low xs ≡ []
  rest_lower low least high [] le r = refl
  rest_lower low least high (x ∷ xs) le r =
      let below : row_key I cb x < high = ltb-true _ _ r.1 in
      rw (lt-leb low (row_key I cb x) (omega (arith, below, le))) (rest_lower low (row_key I cb x + 1) high xs le r.2)

  -- none is
  pub rest_all : (low least : ℕ) (high : Option ℕ) (xs : List ℕ) → low ≤ least → Rises least high (map (row_key I cb) xs) → rows_from_key I cb low xs ≡ xs
  rest_all low least high [] le r = refl
  rest_all low least high (x ∷ xs) le r =
      let k : low ≤ row_key I cb x = omega (arith, r.0, le) in
      rw (le-leb _ _ k) (ap (λ (zs : List ℕ). x ∷ zs) (rest_all low (row_key I cb x + 1) high xs (omega (arith, k)) r.2))

  pub rest_above : (low least : ℕ) (high : Option ℕ) (xs : List ℕ) → IsAbove (row_key I cb) low xs → Rises least high (map (row_key I cb) xs) → rows_from_key I cb low xs ≡ xs
  rest_above low least high [] above r = refl
  rest_above low least high (x ∷ xs) above r = rest_all low (row_key I cb x) high (x ∷ xs) (omega (arith, above)) (from_first (row_key I cb) least high x xs r)

  pub rest_drop : (low x : ℕ) (xs : List ℕ) → row_key I cb x < low → rows_from_key I cb low (x ∷ xs) ≡ rows_from_key I cb low xs
  rest_drop low x xs lt = rw (lt-leb low (row_key I cb x) lt) refl

  -- ---- of the records of an item, by how many have a key of at most this one

  pub rest_none_below : (size : ℕ) (s : Span) (low least : ℕ) (high : Option ℕ) (n : ℕ) → Rises least high (map (row_key I cb) (rows_at size s)) → IsUpToKey I cb size s low n → n ≡ 0 → rows_from_key I cb low (rows_at size s) ≡ rows_from size s n
  rest_none_below size s low least high n r u e =
      let start : rows_from size s n ≡ rows_at size s = ap (rows_from size s) e ∙ rows_start size s in
      rest_above low least high (rows_at size s) (subst (IsAbove (row_key I cb) low) start (above_from I cb size s low n u)) r ∙ sym start

  rest_split : (size : ℕ) (s : Span) (low least : ℕ) (high : Option ℕ) (n : ℕ) → Rises least high (map (row_key I cb) (rows_at size s)) → IsUpToKey I cb size s low n → 0 < n
      → rows_from_key I cb low (rows_at size s) ≡ rows_from_key I cb low (row_place size s (n - 1) ∷ rows_from size s n)
  rest_split size s low least high n r u pos =
      let next : (n - 1) + 1 ≡ n = omega arith in
      let split : rows_at size s ≡ rows_before size s (n - 1) ++ row_place size s (n - 1) ∷ rows_from size s n =
      rows_at_split size s (n - 1) (omega (arith, u.within)) ∙ ap (λ (i : ℕ). rows_before size s (n - 1) ++ row_place size s (n - 1) ∷ rows_from size s i) next in
      let front = rises_front (row_key I cb) least high (rows_before size s (n - 1)) (row_place size s (n - 1)) (rows_from size s n) (subst (λ (xs : List ℕ). Rises least high (map (row_key I cb) xs)) split r) in
      ap (rows_from_key I cb low) split
      ∙ rest_skip low (rows_before size s (n - 1)) (row_place size s (n - 1) ∷ rows_from size s n)
      (rest_lower low least (row_key I cb (row_place size s (n - 1))) (rows_before size s (n - 1)) (u.before pos) front.0)

  behind_rises : (size : ℕ) (s : Span) (least : ℕ) (high : Option ℕ) (i : ℕ) → Rises least high (map (row_key I cb) (rows_at size s)) → i ≤ row_count size s → Rises least high (map (row_key I cb) (rows_from size s i))
  behind_rises size s least high i r le =
      rises_back (row_key I cb) least high (rows_before size s i) (rows_from size s i) (subst (λ (xs : List ℕ). Rises least high (map (row_key I cb) xs)) (rows_split size s i le) r)

  pub rest_is : (size : ℕ) (s : Span) (low least : ℕ) (high : Option ℕ) (n : ℕ) → Rises least high (map (row_key I cb) (rows_at size s)) → IsUpToKey I cb size s low n → 0 < n → row_key I cb (row_place size s (n - 1)) ≡ low
      → rows_from_key I cb low (rows_at size s) ≡ rows_from size s (n - 1)
  rest_is size s low least high n r u pos e =
      let next : (n - 1) + 1 ≡ n = omega arith in
      let whole : rows_from size s (n - 1) ≡ row_place size s (n - 1) ∷ rows_from size s n =
      rows_next size s (n - 1) (omega (arith, u.within)) ∙ ap (λ (i : ℕ). row_place size s (n - 1) ∷ rows_from size s i) next in
      let rise : Rises least high (map (row_key I cb) (row_place size s (n - 1) ∷ rows_from size s n)) =
      subst (λ (xs : List ℕ). Rises least high (map (row_key I cb) xs)) whole (behind_rises size s least high (n - 1) r (omega (arith, u.within))) in
      rest_split size s low least high n r u pos
      ∙ rest_all low (row_key I cb (row_place size s (n - 1))) high _ (omega (arith, e)) (from_first (row_key I cb) least high (row_place size s (n - 1)) (rows_from size s n) rise)
      ∙ sym whole

  pub rest_not : (size : ℕ) (s : Span) (low least : ℕ) (high : Option ℕ) (n : ℕ) → Rises least high (map (row_key I cb) (rows_at size s)) → IsUpToKey I cb size s low n → 0 < n → row_key I cb (row_place size s (n - 1)) < low
      → rows_from_key I cb low (rows_at size s) ≡ rows_from size s n
  rest_not size s low least high n r u pos lt =
      rest_split size s low least high n r u pos
      ∙ rest_drop low (row_place size s (n - 1)) (rows_from size s n) lt
      ∙ rest_above low least high (rows_from size s n) (above_from I cb size s low n u) (behind_rises size s least high n r u.within)

  -- all keys of an item are lower than this one, if the last one is
  last_is : (size : ℕ) (s : Span) → 0 < row_count size s → rows_at size s ≡ rows_before size s (row_count size s - 1) ++ row_place size s (row_count size s - 1) ∷ []
  last_is size s pos =
      let n = row_count size s in
      let next : (n - 1) + 1 ≡ n = omega arith in
      rows_at_split size s (n - 1) (omega arith)
      ∙ ap (λ (xs : List ℕ). rows_before size s (n - 1) ++ row_place size s (n - 1) ∷ xs) (ap (rows_from size s) next ∙ rows_end size s n (omega arith))

  pub rest_short : (size : ℕ) (s : Span) (low least : ℕ) (high : Option ℕ) → Rises least high (map (row_key I cb) (rows_at size s)) → 0 < row_count size s → row_key I cb (row_place size s (row_count size s - 1)) < low → rows_from_key I cb low (rows_at size s) ≡ []
  rest_short size s low least high r pos lt =
      let n = row_count size s in
      let split = last_is size s pos in
      let front = rises_front (row_key I cb) least high (rows_before size s (n - 1)) (row_place size s (n - 1)) [] (subst (λ (xs : List ℕ). Rises least high (map (row_key I cb) xs)) split r) in
      ap (rows_from_key I cb low) split
      ∙ rest_skip low (rows_before size s (n - 1)) (row_place size s (n - 1) ∷ []) (rest_lower low least (row_key I cb (row_place size s (n - 1))) (rows_before size s (n - 1)) (omega (arith, lt)) front.0)
      ∙ rest_drop low (row_place size s (n - 1)) [] lt

  pub rest_empty : (size : ℕ) (s : Span) (low : ℕ) → row_count size s ≡ 0 → rows_from_key I cb low (rows_at size s) ≡ []
  rest_empty size s low e = ap (rows_from_key I cb low) (sym (rows_start size s) ∙ rows_end size s 0 (omega (arith, e)))

  -- ---- a whole tree, with a leaf in it

  pub rest_leaf : (size : ℕ) (s : Span) (low least : ℕ) (high : Option ℕ) (first : ℕ) (all before after : List ℕ) → Rises least high (map (row_key I cb) all) → all ≡ before ++ (rows_at size s ++ after)
      → rows_from_key I cb low before ≡ [] → rows_from_key I cb low (rows_at size s) ≡ rows_from size s first → 0 < row_count size s → low ≤ row_key I cb (row_place size s (row_count size s - 1))
      → rows_from_key I cb low all ≡ rows_from size s first ++ rows_from_key I cb (row_key I cb (row_place size s (row_count size s - 1)) + 1) all
  rest_leaf size s low least high first all before after r parts lower here pos le =
      let n = row_count size s in
      let last = row_place size s (n - 1) in
      let k = row_key I cb last in
      let front = before ++ rows_before size s (n - 1) in
      let split : all ≡ front ++ last ∷ after =
      parts
      ∙ ap (λ (xs : List ℕ). before ++ (xs ++ after)) (last_is size s pos)
      ∙ ap (λ (xs : List ℕ). before ++ xs) (append_assoc (rows_before size s (n - 1)) (last ∷ []) after)
      ∙ sym (append_assoc before (rows_before size s (n - 1)) (last ∷ after)) in
      let rise : Rises least high (map (row_key I cb) (front ++ last ∷ after)) = subst (λ (xs : List ℕ). Rises least high (map (row_key I cb) xs)) split r in
      let less = rises_front (row_key I cb) least high front last after rise in
      let back : Rises least high (map (row_key I cb) (last ∷ after)) = rises_back (row_key I cb) least high front (last ∷ after) rise in
      let behind : rows_from_key I cb (k + 1) all ≡ after =
      ap (rows_from_key I cb (k + 1)) split
      ∙ rest_skip (k + 1) front (last ∷ after) (rest_lower (k + 1) least k front (omega arith) less.0)
      ∙ rest_drop (k + 1) last after (omega arith)
      ∙ rest_all (k + 1) (k + 1) high after (omega arith) back.2 in
      let left : rows_from_key I cb low after ≡ after = rest_all low (k + 1) high after (omega (arith, le)) back.2 in
      ap (rows_from_key I cb low) parts
      ∙ rest_skip low before (rows_at size s ++ after) lower
      ∙ rest_append low (rows_at size s) after
      ∙ ap (λ (xs : List ℕ). xs ++ rows_from_key I cb low after) here
      ∙ ap (λ (xs : List ℕ). rows_from size s first ++ xs) (left ∙ sym behind)
