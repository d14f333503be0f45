-- The pages that lie within none before them stand for all.
use Rattle.std.proofs.Common.{◌≡◌, ℕ, zero, suc, ◌+◌, ◌-◌, ◌<◌, ◌≤◌, Bool, true, false, ◌&&◌, List, [], ◌∷◌, ◌++◌, length, drop, get_or, Option, Some, None, refl, sym, ap, ◌∙◌, append_assoc, arith}
use Rattle.std.specs.Prelude.{nat_le, leb, slice_index_or, if◌then◌else◌}
use Rattle.std.specs.List.Sorted.{IsNonDecreasingBy}
use Rattle.std.proofs.lemmas.List.{append-nil, drop_more}
use Rattle.std.proofs.lemmas.Bool.Decides.{nat_tests}
use Rattle.pst_btree.specs.Order.{is_below}
use Rattle.pst_remains.specs.declared.pages.Broken.{Broken}
use Rattle.pst_remains.specs.Pages.{lies_behind, page_before}
use Rattle.pst_damage.specs.Apart.{is_up_to, precedes, ends_within, lies_within, are_apart, BeginUpTo, StandFor}
use Rattle.pst_damage.proofs.JudgedLemmas.{drop_past}

-- ---- one page

here : (b : Broken) (rest : List Broken) (key : ℕ) → lies_behind key b ≡ true → page_before (b ∷ rest) key ≡ Some b
unfolding page_before
here b rest key e = rw e refl

later : (b : Broken) (rest : List Broken) (key : ℕ) → lies_behind key b ≡ false → page_before (b ∷ rest) key ≡ page_before rest key
unfolding page_before
later b rest key e = rw e refl

nowhere : (key : ℕ) → page_before [] key ≡ None
unfolding page_before
nowhere key = refl

-- ---- pages joined

-- the first of two
abbrev or_else : Option Broken → Option Broken → Option Broken
or_else (Some b) o = Some b
or_else None o = o

or_none : (o : Option Broken) → or_else o None ≡ o
or_none None = refl
or_none (Some b) = refl

joined : (xs ys : List Broken) (key : ℕ) → page_before (xs ++ ys) key ≡ or_else (page_before xs key) (page_before ys key)
joined [] ys key = rw (nowhere key) refl
joined (b ∷ xs) ys key = by (lies_behind key b) refl (joined xs ys key)
  where
    by : (v : Bool) → lies_behind key b ≡ v → page_before (xs ++ ys) key ≡ or_else (page_before xs key) (page_before ys key)
        → page_before ((b ∷ xs) ++ ys) key ≡ or_else (page_before (b ∷ xs) key) (page_before ys key)
    by true e rest = rw (here b (xs ++ ys) key e, here b xs key e) refl
    by false e rest = rw (later b (xs ++ ys) key e, later b xs key e) rest

pub stand_on : (outer more all rest : List Broken) (page : Broken) → StandFor more (outer ++ page ∷ []) → StandFor (outer ++ (page ∷ rest)) all → StandFor (more ++ rest) all
stand_on outer more all rest page added so_far key =
    joined more rest key ∙ ap (λ (o : Option Broken). or_else o (page_before rest key)) (added key) ∙ sym (joined (outer ++ page ∷ []) rest key)
    ∙ ap (λ (xs : List Broken). page_before xs key) (append_assoc outer (page ∷ []) rest) ∙ so_far key

pub stand_next : (outer more all : List Broken) (i : ℕ) (d : Broken) → i < length all → StandFor more (outer ++ get_or all i d ∷ []) → StandFor (outer ++ drop i all) all → StandFor (more ++ drop (i + 1) all) all
stand_next outer more all i d lt added so_far =
    stand_on outer more all (drop (i + 1) all) (get_or all i d) added (λ key. ap (λ (xs : List Broken). page_before (outer ++ xs) key) (sym (drop_more all i d lt)) ∙ so_far key)

pub stand_all : (outer all : List Broken) (i : ℕ) → length all ≤ i → StandFor (outer ++ drop i all) all → StandFor outer all
stand_all outer all i le so_far key =
    ap (λ (xs : List Broken). page_before xs key) (sym (append-nil outer) ∙ ap (λ (xs : List Broken). outer ++ xs) (sym (drop_past all i le))) ∙ so_far key

-- ---- one page more

both_true : (a b : Bool) → (a && b) ≡ true → (a ≡ true) × (b ≡ true)
both_true true b e = (refl, e)
both_true false b e = cc

and_true : (v : Bool) → (v && true) ≡ v
and_true true = refl
and_true false = refl

pub first_apart : (page : Broken) (xs : List Broken) → length xs ≡ 0 → are_apart (xs ++ page ∷ []) ≡ true
first_apart page [] none = refl
first_apart page (x ∷ xs) none = absurd (omega (arith, none))

-- behind the last
behind_last : (front : List Broken) (last page : Broken) → are_apart (front ++ last ∷ []) ≡ true → precedes last page ≡ true → are_apart ((front ++ last ∷ []) ++ page ∷ []) ≡ true
behind_last [] last page e p = rw p refl
behind_last (b ∷ []) last page e p = let first : precedes b last ≡ true = sym (and_true (precedes b last)) ∙ e in rw (first, p) refl
behind_last (b ∷ c ∷ front) last page e p =
    let both = both_true (precedes b c) (are_apart ((c ∷ front) ++ last ∷ [])) e in
    rw (both.0, behind_last (c ∷ front) last page both.1 p) refl

pub next_apart : (xs front : List Broken) (last page : Broken) → xs ≡ front ++ last ∷ [] → are_apart xs ≡ true → precedes last page ≡ true → are_apart (xs ++ page ∷ []) ≡ true
next_apart xs front last page is e p = rw is (behind_last front last page (rw is at e) p)

-- within the last
inside : (outer b : Broken) (key : ℕ) → lies_within outer b ≡ true → lies_behind key b ≡ true → lies_behind key outer ≡ true
inside outer b key w l =
    let from = both_true (nat_le outer.from b.from) (ends_within outer.high b.high) w in
    let key_in = both_true (nat_le b.from key) (is_below key b.high) l in
    let low : nat_le outer.from key ≡ true = grind (arith, nat_tests, from.0, key_in.0) in
    rw (low, by outer.high b.high from.1 key_in.1) refl
  where
    by : (o h : Option ℕ) → ends_within o h ≡ true → is_below key h ≡ true → is_below key o ≡ true
    by None h e k = refl
    by (Some high) None e k = absurd cc
    by (Some high) (Some h) e k = grind (arith, nat_tests, e, k)

alone : (b : Broken) (key : ℕ) (v : Bool) → lies_behind key b ≡ v → page_before (b ∷ []) key ≡ (if v then Some b else None)
alone b key true e = here b [] key e
alone b key false e = later b [] key e ∙ nowhere key

last_in : (front : List Broken) (last page : Broken) (key : ℕ) (v w : Bool) → lies_behind key last ≡ v → lies_behind key page ≡ w → (w ≡ true → v ≡ true) → page_before (front ++ last ∷ []) key ≡ page_before ((front ++ last ∷ []) ++ page ∷ []) key
last_in front last page key v false a b imp =
    sym (joined (front ++ last ∷ []) (page ∷ []) key ∙ ap (λ (o : Option Broken). or_else (page_before (front ++ last ∷ []) key) o) (alone page key false b) ∙ or_none (page_before (front ++ last ∷ []) key))
last_in front last page key v true a b imp =
    let hit : page_before (last ∷ []) key ≡ Some last = here last [] key (a ∙ imp refl) in
    sym (joined (front ++ last ∷ []) (page ∷ []) key ∙ found (page_before front key) hit)
  where
    found : (o : Option Broken) → page_before (last ∷ []) key ≡ Some last → or_else (page_before (front ++ last ∷ []) key) (page_before (page ∷ []) key) ≡ page_before (front ++ last ∷ []) key
    found o hit = rw (joined front (last ∷ []) key, hit) (some (page_before front key))
      where
        some : (o : Option Broken) → or_else (or_else o (Some last)) (page_before (page ∷ []) key) ≡ or_else o (Some last)
        some None = refl
        some (Some b) = refl

pub within_stands : (xs front : List Broken) (last page : Broken) → xs ≡ front ++ last ∷ [] → lies_within last page ≡ true → StandFor xs (xs ++ page ∷ [])
within_stands xs front last page is w key = rw is (last_in front last page key (lies_behind key last) (lies_behind key page) refl refl (λ l. inside last page key w l))

-- ---- by halving

ends_before : (h : Option ℕ) (key bound : ℕ) → is_up_to h bound ≡ true → bound ≤ key → is_below key h ≡ false
ends_before None key bound e le = absurd cc
ends_before (Some high) key bound e le = grind (arith, nat_tests, e, le)

-- the keys of none begin at or before one
all_above : (xs : List Broken) (key : ℕ) → ((k : ℕ) (d : Broken) → k < length xs → key < (slice_index_or xs k d).from) → page_before xs key ≡ None
all_above [] key high = nowhere key
all_above (b ∷ xs) key high =
    let more : key < b.from = high 0 b (omega arith) in
    let no : nat_le b.from key ≡ false = grind (arith, nat_tests, more) in
    later b xs key (rw no refl) ∙ all_above xs key (λ k d lt. high (suc k) d (omega (arith, lt)))

-- of those that begin at or before a key the last one decides
last_decides : (xs : List Broken) (key n : ℕ) (d : Broken) → are_apart xs ≡ true → n < length xs → ((k : ℕ) (d : Broken) → k < suc n → (slice_index_or xs k d).from ≤ key)
    → ((k : ℕ) (d : Broken) → n < k → k < length xs → key < (slice_index_or xs k d).from) → page_before xs key ≡ (if lies_behind key (slice_index_or xs n d) then Some (slice_index_or xs n d) else None)
last_decides [] key n d a lt low high = absurd (omega (arith, lt))
last_decides (b ∷ xs) key zero d a lt low high =
    rest (lies_behind key b) refl (all_above xs key (λ k d less. high (suc k) d (omega arith) (omega (arith, less))))
  where
    rest : (v : Bool) → lies_behind key b ≡ v → page_before xs key ≡ None → page_before (b ∷ xs) key ≡ (if v then Some b else None)
    rest true e none = here b xs key e
    rest false e none = later b xs key e ∙ none
last_decides (b ∷ []) key (suc n) d a lt low high = absurd (omega (arith, lt))
last_decides (b ∷ c ∷ xs) key (suc n) d a lt low high =
    let both = both_true (precedes b c) (are_apart (c ∷ xs)) a in
    let ends = both_true (nat_le b.from c.from) (is_up_to b.high c.from) both.0 in
    let past : is_below key b.high ≡ false = ends_before b.high key c.from ends.1 (low 1 c (omega arith)) in
    let not_here : lies_behind key b ≡ false = rw past (and_false (nat_le b.from key)) in
    later b (c ∷ xs) key not_here ∙ last_decides (c ∷ xs) key n d both.1 (omega (arith, lt)) (λ k e less. low (suc k) e (omega (arith, less))) (λ k e more less. high (suc k) e (omega (arith, more)) (omega (arith, less)))
  where
    and_false : (v : Bool) → (v && false) ≡ false
    and_false true = refl
    and_false false = refl

-- those that stand apart are in order
in_order : (b : Broken) (xs : List Broken) (k : ℕ) (d : Broken) → are_apart (b ∷ xs) ≡ true → k < length xs → b.from ≤ (slice_index_or xs k d).from
in_order b [] k d a lt = absurd (omega (arith, lt))
in_order b (c ∷ xs) zero d a lt =
    let both = both_true (precedes b c) (are_apart (c ∷ xs)) a in
    let le = both_true (nat_le b.from c.from) (is_up_to b.high c.from) both.0 in
    grind (arith, nat_tests, le.0)
in_order b (c ∷ xs) (suc k) d a lt =
    let both = both_true (precedes b c) (are_apart (c ∷ xs)) a in
    let le = both_true (nat_le b.from c.from) (is_up_to b.high c.from) both.0 in
    let here : b.from ≤ c.from = grind (arith, nat_tests, le.0) in
    omega (arith, here, in_order c xs k d both.1 (omega (arith, lt)))

rest_apart : (b : Broken) (xs : List Broken) → are_apart (b ∷ xs) ≡ true → are_apart xs ≡ true
rest_apart b [] a = refl
rest_apart b (c ∷ xs) a = (both_true (precedes b c) (are_apart (c ∷ xs)) a).1

pub apart_up : (xs : List Broken) → are_apart xs ≡ true → IsNonDecreasingBy (λ (b : Broken). b.from) xs
apart_up xs a i j d le lt = up xs i j d a le lt
  where
    up : (xs : List Broken) (i j : ℕ) (d : Broken) → are_apart xs ≡ true → i ≤ j → j < length xs → (slice_index_or xs i d).from ≤ (slice_index_or xs j d).from
    up [] i j d a le lt = absurd (omega (arith, lt))
    up (b ∷ xs) zero zero d a le lt = omega arith
    up (b ∷ xs) zero (suc j) d a le lt = in_order b xs j d a (omega (arith, lt))
    up (b ∷ xs) (suc i) zero d a le lt = absurd (omega (arith, le))
    up (b ∷ xs) (suc i) (suc j) d a le lt = up xs i j d (rest_apart b xs a) (omega (arith, le)) (omega (arith, lt))

pub found_none : (xs : List Broken) (key count : ℕ) → BeginUpTo xs key count → count ≡ 0 → None ≡ page_before xs key
found_none xs key count place none = sym (all_above xs key (λ k d lt. let no : leb (slice_index_or xs k d).from key ≡ false = place.1 k d (omega (arith, none)) lt in grind (arith, nat_tests, no)))

found_last : (xs : List Broken) (key count : ℕ) (d : Broken) → are_apart xs ≡ true → BeginUpTo xs key count → 0 < count → count ≤ length xs
    → page_before xs key ≡ (if lies_behind key (slice_index_or xs (count - 1) d) then Some (slice_index_or xs (count - 1) d) else None)
found_last xs key count d a place some le =
    last_decides xs key (count - 1) d a (omega (arith, some, le))
    (λ k e lt. let yes : leb (slice_index_or xs k e).from key ≡ true = place.0 k e (omega arith) (omega (arith, lt, some)) in grind (arith, nat_tests, yes))
    (λ k e more lt. let no : leb (slice_index_or xs k e).from key ≡ false = place.1 k e (omega (arith, more, some)) lt in grind (arith, nat_tests, no))

pub found_here : (xs : List Broken) (key count : ℕ) (d : Broken) → are_apart xs ≡ true → BeginUpTo xs key count → 0 < count → count ≤ length xs → lies_behind key (slice_index_or xs (count - 1) d) ≡ true
    → Some (slice_index_or xs (count - 1) d) ≡ page_before xs key
found_here xs key count d a place some le hit = sym (rw hit at (found_last xs key count d a place some le))

pub found_past : (xs : List Broken) (key count : ℕ) (d : Broken) → are_apart xs ≡ true → BeginUpTo xs key count → 0 < count → count ≤ length xs → lies_behind key (slice_index_or xs (count - 1) d) ≡ false
    → None ≡ page_before xs key
found_past xs key count d a place some le past = sym (rw past at (found_last xs key count d a place some le))
