-- Numbers that rise, one after another and list after list.
use Rattle.std.proofs.Common.{◌≡◌, ℕ, ◌+◌, ◌<◌, ◌≤◌, min, max, true, false, List, [], ◌∷◌, ◌++◌, map, refl, arith}
use Rattle.std.specs.Prelude.{◌&&◌, nat_eq, nat_le, nat_lt}
use Rattle.std.specs.List.{list_any}
use Rattle.std.proofs.lemmas.Bool.{ne_eqb, and_parts}
use Rattle.std.proofs.lemmas.Bool.Decides.{nat_tests}
use Rattle.std.proofs.lemmas.List.{map-append}
use Rattle.pst_fault.specs.First.{join_below}
use Rattle.pst_fault.proofs.FirstLemmas.{join_more}
use Rattle.pst_block.specs.Table.{Table}
use Rattle.pst_subnode.specs.declared.sub.Sub.{Sub}
use Rattle.pst_subnode.specs.declared.ranges.NidRange.{NidRange}
use Rattle.pst_subnode.specs.Body.{leaf_bid_in, sub_in, sub_at}
use Rattle.pst_subnode.specs.List.{sub_nid, leaf_subs, are_distinct}
use Rattle.pst_subnode.specs.Index.{nids_rise}
use Rattle.pst_subnode.specs.Ranges.{rise_within, IsRangeOf}

-- ---- the first of them

record Begins (low end n : ℕ) (rest : List ℕ) : Type 0 where
  from : low ≤ n
  below : n < end
  later : rise_within (n + 1) end rest ≡ true

begins : (low end n : ℕ) (rest : List ℕ) → rise_within low end (n ∷ rest) ≡ true → Begins low end n rest
unfolding rise_within
begins low end n rest rise =
    let p = and_parts (nat_le low n && nat_lt n end) (rise_within (n + 1) end rest) rise in
    let q = and_parts (nat_le low n) (nat_lt n end) p.0 in
    record { from = grind (q.0, arith, nat_tests); below = grind (q.1, arith, nat_tests); later = p.1 }

begun : (low end n : ℕ) (rest : List ℕ) → low ≤ n → n < end → rise_within (n + 1) end rest ≡ true → rise_within low end (n ∷ rest) ≡ true
unfolding rise_within
begun low end n rest le lt later =
    let from : nat_le low n ≡ true = grind (arith, nat_tests) in
    let below : nat_lt n end ≡ true = grind (arith, nat_tests) in
    rw (from, below, later) refl

pub none_rise : (low end : ℕ) → rise_within low end [] ≡ true
unfolding rise_within
none_rise low end = refl

-- ---- they are distinct

none_below : (low end m : ℕ) (xs : List ℕ) → m < low → rise_within low end xs ≡ true → list_any (nat_eq m) xs ≡ false
none_below low end m [] lt rise = refl
none_below low end m (n ∷ rest) lt rise =
    let first = begins low end n rest rise in
    rw (ne_eqb m n (λ same. absurd (omega (arith, same, first.from))), none_below (n + 1) end m rest (omega (arith, first.from)) first.later) refl

pub risen_distinct : (low end : ℕ) (xs : List ℕ) → rise_within low end xs ≡ true → are_distinct xs ≡ true
unfolding are_distinct
risen_distinct low end [] rise = refl
risen_distinct low end (n ∷ rest) rise =
    let first = begins low end n rest rise in
    rw (none_below (n + 1) end n rest (omega arith) first.later, risen_distinct (n + 1) end rest first.later) refl

-- ---- list after list

-- within a wider range
rise_wider : (low end lower higher : ℕ) (xs : List ℕ) → lower ≤ low → end ≤ higher → rise_within low end xs ≡ true → rise_within lower higher xs ≡ true
rise_wider low end lower higher [] le ge rise = none_rise lower higher
rise_wider low end lower higher (n ∷ rest) le ge rise =
    let first = begins low end n rest rise in
    begun lower higher n rest (omega (arith, first.from)) (omega (arith, first.below)) (rise_wider (n + 1) end (n + 1) higher rest (omega arith) ge first.later)

rise_joined : (low end next last most : ℕ) (xs ys : List ℕ) → low ≤ next → end ≤ next → end ≤ most → last ≤ most → rise_within low end xs ≡ true → rise_within next last ys ≡ true → rise_within low most (xs ++ ys) ≡ true
rise_joined low end next last most [] ys le fits one two rise also = rise_wider next last low most ys le two also
rise_joined low end next last most (n ∷ rest) ys le fits one two rise also =
    let first = begins low end n rest rise in
    begun low most n (rest ++ ys) first.from (omega (arith, first.below)) (rise_joined (n + 1) end next last most rest ys (omega (arith, first.below)) fits one two first.later also)

-- one list more
part_rises : (part : ℕ → List Sub) (i low end next last most : ℕ) → low ≤ next → end ≤ next → end ≤ most → last ≤ most → rise_within low end (map sub_nid (join_below part i)) ≡ true → rise_within next last (map sub_nid (part i)) ≡ true → rise_within low most (map sub_nid (join_below part (i + 1))) ≡ true
part_rises part i low end next last most le fits one two rise also =
    rw (join_more part i, map-append sub_nid (join_below part i) (part i)) (rise_joined low end next last most (map sub_nid (join_below part i)) (map sub_nid (part i)) le fits one two rise also)

-- one entry more, whose identifier is not below the end
pub entry_rises : (body : List ℕ) (i first end n lower next : ℕ) → n ≡ (sub_in body i).nid → end ≤ n → lower ≡ min first n → next ≡ n + 1 → rise_within first end (map sub_nid (join_below (sub_at body) i)) ≡ true → rise_within lower next (map sub_nid (join_below (sub_at body) (i + 1))) ≡ true
entry_rises body i first end n lower next is fits low more rise =
    part_rises (sub_at body) i lower end n (n + 1) next (omega (arith, low)) fits (omega (arith, more)) (omega (arith, more))
    (rise_wider first end lower end (map sub_nid (join_below (sub_at body) i)) (omega (arith, low)) (omega arith) rise)
    (rw (← is) (begun n (n + 1) n [] (omega arith) (omega arith) (none_rise (n + 1) (n + 1))))

-- one SLBLOCK more, whose range does not begin below the end
pub leaf_rises : (t : Table) (body : List ℕ) (i bid end most : ℕ) (range : NidRange) → bid ≡ leaf_bid_in body i → end ≤ range.first → most ≡ max end range.end → rise_within 0 end (map sub_nid (join_below (leaf_subs t body) i)) ≡ true → IsRangeOf t bid range → rise_within 0 most (map sub_nid (join_below (leaf_subs t body) (i + 1))) ≡ true
unfolding leaf_subs
leaf_rises t body i bid end most range named fits is rise also =
    part_rises (leaf_subs t body) i 0 end range.first range.end most (omega arith) fits (omega (arith, is)) (omega (arith, is)) rise (rw named at also)

-- ---- identifiers that rise, however high

-- the next one is below the last
pub rise_ends : (end n : ℕ) (xs rest : List ℕ) → xs ≡ n ∷ rest → n < end → nids_rise end xs ≡ false
unfolding nids_rise
rise_ends end n xs rest is lt =
    let below : nat_lt n end ≡ true = grind (arith, nat_tests) in
    rw (is, below) refl

-- and is not
pub rise_goes_on : (end n : ℕ) (xs rest : List ℕ) → xs ≡ n ∷ rest → end ≤ n → nids_rise (n + 1) rest ≡ nids_rise end xs
unfolding nids_rise
rise_goes_on end n xs rest is le =
    let below : nat_lt n end ≡ false = grind (arith, nat_tests) in
    rw (is, below) refl

-- and there is none
pub rise_whole : (end : ℕ) (xs : List ℕ) → xs ≡ [] → nids_rise end xs ≡ true
unfolding nids_rise
rise_whole end xs is = rw is refl
