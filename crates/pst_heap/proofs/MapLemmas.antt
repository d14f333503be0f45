-- Page maps, step by step.
use Rattle.std.proofs.Common.{◌≡◌, ℕ, zero, suc, ◌+◌, ◌*◌, ◌-◌, ◌<◌, ◌≤◌, true, false, List, refl, arith, inl, inr, le_refl}
use Rattle.std.specs.Prelude.{nat_le}
use Rattle.std.proofs.lemmas.Bool.{le-leb, lt-leb, leb-true, and_parts, and_from, and_right}
use Rattle.pst_bytes.specs.declared.span.Span.{Span}
use Rattle.pst_fault.proofs.FirstLemmas.{below_or_last}
use Rattle.pst_heap.specs.PageMap.{map_offset, item_count, offset_in, has_room, never_falls, has_page_map}

-- ---- numbers that never fall

pub rises_start : (f : ℕ → ℕ) → never_falls f 0 ≡ true
unfolding never_falls
rises_start f = refl

pub rises_on : (f : ℕ → ℕ) (i : ℕ) → never_falls f i ≡ true → f i ≤ f (i + 1) → never_falls f (i + 1) ≡ true
unfolding never_falls
rises_on f i h le = let same : i + 1 ≡ suc i = omega arith in rw same (and_from _ _ (le-leb _ _ (rw same at le)) h)

pub falls_at : (f : ℕ → ℕ) (n i : ℕ) → i < n → f (i + 1) < f i → never_falls f n ≡ false
unfolding never_falls
falls_at f zero i lt h = absurd (omega arith)
falls_at f (suc n) i lt h =
    elim (below_or_last i n lt) [
      | inl less ↦ and_right _ _ (falls_at f n i less h)
      | inr e ↦
          let same : i + 1 ≡ suc n = omega arith in
          let fall : f (suc n) < f n = (rw (same, e) at h) in
          rw (lt-leb (f n) (f (suc n)) fall) refl
    ]

-- each is at most the next, where none falls
pub rise_at : (f : ℕ → ℕ) (n i : ℕ) → never_falls f n ≡ true → i < n → f i ≤ f (i + 1)
unfolding never_falls
rise_at f zero i h lt = absurd (omega arith)
rise_at f (suc n) i h lt =
    let both : (nat_le (f n) (f (suc n)) ≡ true) × (never_falls f n ≡ true) = and_parts _ _ h in
    elim (below_or_last i n lt) [
      | inl less ↦ rise_at f n i both.1 less
      | inr e ↦ let same : i + 1 ≡ suc n = omega arith in rw (same, e) (leb-true _ _ both.0)
    ]

pub never_from : (f : ℕ → ℕ) (n : ℕ) → ((i : ℕ) → i < n → f i ≤ f (i + 1)) → never_falls f n ≡ true
unfolding never_falls
never_from f zero h = refl
never_from f (suc n) h =
    let last : f n ≤ f (suc n) = (let same : n + 1 ≡ suc n = omega arith in rw (← same) (h n (omega arith))) in
    and_from _ _ (le-leb _ _ last) (never_from f n (λ i lt. h i (omega arith)))

-- and at most the last
pub rise_to : (f : ℕ → ℕ) (n i : ℕ) → never_falls f n ≡ true → i ≤ n → f i ≤ f n
unfolding never_falls
rise_to f zero i h le = let same : i ≡ 0 = omega arith in rw same (le_refl (f 0))
rise_to f (suc n) i h le =
    let both : (nat_le (f n) (f (suc n)) ≡ true) × (never_falls f n ≡ true) = and_parts _ _ h in
    elim (below_or_last i (suc n) (omega arith)) [
      | inl less ↦ omega (arith, rise_to f n i both.1 (omega arith), leb-true _ _ both.0)
      | inr e ↦ rw e (le_refl (f (suc n)))
    ]

-- ---- a map

pub no_room : (I : List ℕ) (s : Span) → has_room I s ≡ false → has_page_map I s ≡ false
unfolding has_page_map
no_room I s h = rw h refl

-- what has_room says, part by part

pub room_front : (I : List ℕ) (s : Span) → has_room I s ≡ true → 2 ≤ s.len
unfolding has_room
room_front I s h = leb-true _ _ (and_parts _ _ (and_parts _ _ h).0).0

pub room_map : (I : List ℕ) (s : Span) → has_room I s ≡ true → map_offset I s + 4 ≤ s.len
unfolding has_room
room_map I s h = leb-true _ _ (and_parts _ _ (and_parts _ _ h).0).1

pub room_all : (I : List ℕ) (s : Span) → has_room I s ≡ true → map_offset I s + 6 + 2 * item_count I s ≤ s.len
unfolding has_room
room_all I s h = leb-true _ _ (and_parts _ _ h).1

pub has_map_room : (I : List ℕ) (s : Span) → has_page_map I s ≡ true → has_room I s ≡ true
unfolding has_page_map
has_map_room I s h = (and_parts _ _ (and_parts _ _ h).0).0

map_rises : (I : List ℕ) (s : Span) → has_page_map I s ≡ true → never_falls (offset_in I s) (item_count I s) ≡ true
unfolding has_page_map
map_rises I s h = (and_parts _ _ (and_parts _ _ h).0).1

map_ends : (I : List ℕ) (s : Span) → has_page_map I s ≡ true → offset_in I s (item_count I s) ≤ s.len
unfolding has_page_map
map_ends I s h = leb-true _ _ (and_parts _ _ h).1

pub offset_rises : (I : List ℕ) (s : Span) (i : ℕ) → has_page_map I s ≡ true → 0 < i → i ≤ item_count I s → offset_in I s (i - 1) ≤ offset_in I s i
offset_rises I s i h pos le =
    let same : (i - 1) + 1 ≡ i = omega arith in
    rw same at (rise_at (offset_in I s) (item_count I s) (i - 1) (map_rises I s h) (omega arith))

pub offset_inside : (I : List ℕ) (s : Span) (i : ℕ) → has_page_map I s ≡ true → i ≤ item_count I s → offset_in I s i ≤ s.len
offset_inside I s i h le = omega (arith, rise_to (offset_in I s) (item_count I s) i (map_rises I s h) le, map_ends I s h)
