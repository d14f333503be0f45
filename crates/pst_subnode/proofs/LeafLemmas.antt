-- The SLBLOCKs of an SIBLOCK are lists of their own: what is known of one of them is known wherever it is named.
use Rattle.std.proofs.Common.{◌≡◌, ℕ, zero, suc, ◌+◌, ◌-◌, ◌*◌, ◌<◌, ◌≤◌, max, Bool, true, false, List, [], ◌∷◌, ◌++◌, length, Some, None, refl, sym, ap, ◌∙◌, arith}
use Rattle.std.specs.Prelude.{not, ◌&&◌, ◌||◌, map, nat_eq, if◌then◌else◌}
use Rattle.std.specs.List.{list_any}
use Rattle.std.proofs.lemmas.Bool.Decides.{nat_tests}
use Rattle.pst_fault.specs.First.{◌then◌, holds_or, first_below, join_below}
use Rattle.pst_fault.proofs.FirstLemmas.{then_none, none_then, none_below, holds_or_none, holds_or_true, guard_then}
use Rattle.pst_fault.proofs.EachLemmas.{first_append, there_is}
use Rattle.pst_fault.proofs.GeneralLemmas.{or_grouped}
use Rattle.pst_page.specs.declared.entry.BlockEntry.{BlockEntry}
use Rattle.pst_block.specs.Table.{Table, entry_of, body_of}
use Rattle.pst_datatree.specs.Bid.{is_internal, is_no_block}
use Rattle.pst_datatree.specs.Data.{block_missing}
use Rattle.pst_datatree.proofs.PartsLemmas.{internal_is_block}
use Rattle.pst_subnode.specs.declared.sub.Sub.{Sub}
use Rattle.pst_datatree.specs.List.{count_in}
use Rattle.pst_subnode.specs.Body.{leaf_bid_in, is_siblock, has_level_one}
use Rattle.pst_subnode.specs.List.{slblock_subs, leaf_subs, siblock_subs, block_subs, subs_of, sub_nid, are_distinct, bad_list, slblock_fault, list_leaf_fault, siblock_fault, shape_fault, list_block_fault, list_fault}
use Rattle.pst_subnode.specs.Tree.{most_among, entry_fault, entry_height, sub_fault, sub_height}
use Rattle.pst_fault.specs.Each.{first_of}
use Rattle.pst_subnode.specs.Marks.{IsList, IsSiList, at_leaf, at_leaves, leaf_height, most_below, rank_of}
use Rattle.pst_subnode.proofs.ListLaws.{level_zero}
use Rattle.pst_subnode.proofs.SubLemmas.{sub_fault_list, sub_height_list}

-- ---- what a list without fault is made of

block_of_list : (t : Table) (bid : ℕ) (e : BlockEntry) → entry_of t bid ≡ Some e → list_fault t bid ≡ None → list_block_fault t e ≡ None
unfolding list_fault
block_of_list t bid e there none = (guard_then (is_internal bid) (list_block_fault t e) (bad_list e) (rw there at none)).1

-- what an SIBLOCK without fault has
pub record IsSi (t : Table) (e : BlockEntry) : Type 0 where
  pub body : is_siblock (body_of t e) ≡ true
  pub leaves : first_below (list_leaf_fault t e) (count_in (body_of t e)) ≡ None
  pub subs : block_subs t e ≡ join_below (leaf_subs t (body_of t e)) (count_in (body_of t e))
  pub distinct : are_distinct (map sub_nid (join_below (leaf_subs t (body_of t e)) (count_in (body_of t e)))) ≡ true

pub si_of : (t : Table) (bid : ℕ) (e : BlockEntry) → IsSiList t bid e → IsSi t e
unfolding list_block_fault shape_fault siblock_fault block_subs siblock_subs
si_of t bid e is =
    let p = none_then (if has_level_one (body_of t e) then siblock_fault t e else slblock_fault t e) _ (block_of_list t bid e is.entry is.is_list.list) in
    let q = none_then (holds_or (is_siblock (body_of t e)) (bad_list e)) _ (rw is.level at p.0) in
    let body : is_siblock (body_of t e) ≡ true = holds_or_none _ _ q.0 in
    let subs : block_subs t e ≡ join_below (leaf_subs t (body_of t e)) (count_in (body_of t e)) = rw (is.level, body) refl in
    record { body = body; leaves = q.1; subs = subs; distinct = rw subs at (holds_or_none _ _ p.1) }

fits_body : (body : List ℕ) → is_siblock body ≡ true → 8 + 16 * count_in body ≤ length body
unfolding is_siblock
fits_body body h = grind (arith, nat_tests)

pub si_fits : (t : Table) (bid : ℕ) (e : BlockEntry) → IsSiList t bid e → 8 + 16 * count_in (body_of t e) ≤ length (body_of t e)
si_fits t bid e is = fits_body (body_of t e) (si_of t bid e is).body

pub si_head : (t : Table) (bid : ℕ) (e : BlockEntry) → IsSiList t bid e → 8 ≤ length (body_of t e)
si_head t bid e is = omega (arith, si_fits t bid e is)

-- ---- parts of a list in which no number stands twice

any_append : (n : ℕ → Bool) (xs ys : List ℕ) → list_any n (xs ++ ys) ≡ (list_any n xs || list_any n ys)
any_append n [] ys = refl
any_append n (x ∷ rest) ys = rw (any_append n rest ys) (or_grouped (n x) (list_any n rest) (list_any n ys))

parts_distinct : (xs ys : List ℕ) → are_distinct (xs ++ ys) ≡ true → (are_distinct xs ≡ true) × (are_distinct ys ≡ true)
unfolding are_distinct
parts_distinct [] ys h = (refl, h)
parts_distinct (x ∷ rest) ys h =
    let p = both (list_any (nat_eq x) rest) (list_any (nat_eq x) ys) (are_distinct (rest ++ ys)) (rw (any_append (nat_eq x) rest ys) at h) in
    let q = parts_distinct rest ys p.1 in
    (rw (p.0, q.0) refl, q.1)
  where
    both : (a b c : Bool) → (not (a || b) && c) ≡ true → (a ≡ false) × (c ≡ true)
    both true b c h = cc
    both false true c h = cc
    both false false c h = (refl, h)

map_append : (xs ys : List Sub) → map sub_nid (xs ++ ys) ≡ map sub_nid xs ++ map sub_nid ys
map_append [] ys = refl
map_append (x ∷ rest) ys = ap (λ ns. x.nid ∷ ns) (map_append rest ys)

leaf_distinct : (part : ℕ → List Sub) (n i : ℕ) → are_distinct (map sub_nid (join_below part n)) ≡ true → i < n → are_distinct (map sub_nid (part i)) ≡ true
leaf_distinct part zero i h lt = absurd (omega arith)
leaf_distinct part (suc n) i h lt =
    let p = parts_distinct (map sub_nid (join_below part n)) (map sub_nid (part n)) (rw (map_append (join_below part n) (part n)) at h) in
    by_test (nat_eq i n) refl p (λ less. leaf_distinct part n i p.0 less)
  where
    by_test : (v : Bool) → nat_eq i n ≡ v → (are_distinct (map sub_nid (join_below part n)) ≡ true) × (are_distinct (map sub_nid (part n)) ≡ true) → (i < n → are_distinct (map sub_nid (part i)) ≡ true) → are_distinct (map sub_nid (part i)) ≡ true
    by_test true here p later = let same : i ≡ n = grind (arith, nat_tests) in rw same p.1
    by_test false other p later = later (grind (arith, nat_tests))

-- ---- an SLBLOCK of an SIBLOCK

-- it is a list of its own, with the same entries
pub record IsLeafList (t : Table) (body : List ℕ) (i : ℕ) : Type 0 where
  pub is_list : IsList t (leaf_bid_in body i)
  pub subs : subs_of t (leaf_bid_in body i) ≡ leaf_subs t body i
  pub rank : rank_of t (leaf_bid_in body i) ≡ 0

leaf_with : (t : Table) (body : List ℕ) (i : ℕ) (x : BlockEntry) → entry_of t (leaf_bid_in body i) ≡ Some x → is_internal (leaf_bid_in body i) ≡ true → slblock_fault t x ≡ None → are_distinct (map sub_nid (leaf_subs t body i)) ≡ true → IsLeafList t body i
unfolding leaf_subs slblock_fault list_fault list_block_fault shape_fault block_subs subs_of rank_of
leaf_with t body i x there internal none distinct =
    let named = internal_is_block (leaf_bid_in body i) internal in
    let level : has_level_one (body_of t x) ≡ false = level_zero (body_of t x) (holds_or_none _ _ none) in
    let apart : are_distinct (map sub_nid (slblock_subs t x)) ≡ true = (rw there at distinct) in
    record {
      is_list = record { named = named; list = rw (there, internal, level) (then_none _ _ none ∙ holds_or_true _ _ apart) };
      subs = rw (named, there, level) refl;
      rank = rw (there, level) refl;
    }

leaf_is : (t : Table) (e : BlockEntry) (i : ℕ) → list_leaf_fault t e i ≡ None → are_distinct (map sub_nid (leaf_subs t (body_of t e) i)) ≡ true → IsLeafList t (body_of t e) i
unfolding list_leaf_fault
leaf_is t e i none distinct =
    let bid = leaf_bid_in (body_of t e) i in
    let w = there_is (block_missing bid) (λ x. if is_internal bid then slblock_fault t x else Some (bad_list e)) (entry_of t bid) none in
    let p = guard_then (is_internal bid) (slblock_fault t w.0) (bad_list e) w.2 in
    leaf_with t (body_of t e) i w.0 w.1 p.0 p.1 distinct

pub leaf_list : (t : Table) (bid : ℕ) (e : BlockEntry) (i : ℕ) → IsSiList t bid e → i < count_in (body_of t e) → IsLeafList t (body_of t e) i
leaf_list t bid e i is lt =
    let si = si_of t bid e is in
    leaf_is t e i (none_below (list_leaf_fault t e) (count_in (body_of t e)) i si.leaves lt) (leaf_distinct (leaf_subs t (body_of t e)) (count_in (body_of t e)) i si.distinct lt)

-- ---- the walk of an SIBLOCK is that of its SLBLOCKs

max_assoc : (a b c : ℕ) → max a (max b c) ≡ max (max a b) c
max_assoc a b c = omega arith

most_append : (height : Sub → ℕ) (xs ys : List Sub) → most_among height (xs ++ ys) ≡ max (most_among height xs) (most_among height ys)
unfolding most_among
most_append height [] ys = omega arith
most_append height (x ∷ rest) ys = ap (max (height x)) (most_append height rest ys) ∙ max_assoc (height x) (most_among height rest) (most_among height ys)

-- the first n of them
leaves_at : (t : Table) (e : BlockEntry) (k n : ℕ) → ((i : ℕ) → i < n → IsLeafList t (body_of t e) i) → first_of (entry_fault t (sub_fault t k)) (join_below (leaf_subs t (body_of t e)) n) ≡ first_below (at_leaf t e (suc k)) n
unfolding first_of
leaves_at t e k zero each = refl
leaves_at t e k (suc n) each =
    let body = body_of t e in
    let part = entry_fault t (sub_fault t k) in
    let leaf = each n (omega arith) in
    first_append part (join_below (leaf_subs t body) n) (leaf_subs t body n)
    ∙ ap (λ o. o then first_of part (leaf_subs t body n)) (leaves_at t e k n (λ i lt. each i (omega arith)))
    ∙ ap (λ o. first_below (at_leaf t e (suc k)) n then o) (sym (sub_fault_list t (suc k) k (leaf_bid_in body n) (omega arith) leaf.is_list.named ∙ (then_none _ _ leaf.is_list.list ∙ ap (first_of part) leaf.subs)))

heights_at : (t : Table) (e : BlockEntry) (k n : ℕ) → ((i : ℕ) → i < n → IsLeafList t (body_of t e) i) → most_among (entry_height (sub_height t k)) (join_below (leaf_subs t (body_of t e)) n) + 1 ≡ most_below (leaf_height t e (suc k)) n
unfolding most_among most_below
heights_at t e k zero each = refl
heights_at t e k (suc n) each =
    let body = body_of t e in
    let height = entry_height (sub_height t k) in
    let leaf = each n (omega arith) in
    let own : sub_height t (suc k) (leaf_bid_in body n) ≡ most_among height (leaf_subs t body n) + 1 = sub_height_list t (suc k) k (leaf_bid_in body n) (omega arith) leaf.is_list.named ∙ ap (λ xs. most_among height xs + 1) leaf.subs in
    let before = heights_at t e k n (λ i lt. each i (omega arith)) in
    omega (arith, own, before, most_append height (join_below (leaf_subs t body) n) (leaf_subs t body n))

named_subs : (t : Table) (bid : ℕ) (e : BlockEntry) → is_no_block bid ≡ false → entry_of t bid ≡ Some e → subs_of t bid ≡ block_subs t e
unfolding subs_of
named_subs t bid e named there = rw (named, there) refl

pub si_fault : (t : Table) (bid : ℕ) (e : BlockEntry) (limit below : ℕ) → IsSiList t bid e → below + 1 ≡ limit → sub_fault t limit bid ≡ at_leaves t e (count_in (body_of t e)) limit
si_fault t bid e limit below is more =
    let si = si_of t bid e is in
    let are : limit ≡ suc below = omega arith in
    rw are (sub_fault_list t (suc below) below bid (omega arith) is.is_list.named
    ∙ then_none _ _ is.is_list.list
    ∙ ap (first_of (entry_fault t (sub_fault t below))) (named_subs t bid e is.is_list.named is.entry ∙ si.subs)
    ∙ leaves_at t e below (count_in (body_of t e)) (λ i lt. leaf_list t bid e i is lt))

pub si_height : (t : Table) (bid : ℕ) (e : BlockEntry) (limit below : ℕ) → IsSiList t bid e → below + 1 ≡ limit → sub_height t limit bid ≡ most_below (leaf_height t e limit) (count_in (body_of t e))
si_height t bid e limit below is more =
    let si = si_of t bid e is in
    let are : limit ≡ suc below = omega arith in
    rw are (sub_height_list t (suc below) below bid (omega arith) is.is_list.named
    ∙ ap (λ xs. most_among (entry_height (sub_height t below)) xs + 1) (named_subs t bid e is.is_list.named is.entry ∙ si.subs)
    ∙ heights_at t e below (count_in (body_of t e)) (λ i lt. leaf_list t bid e i is lt))

-- ---- the greatest height of the first n

pub most_start : (height : ℕ → ℕ) → most_below height 0 ≡ 1
unfolding most_below
most_start height = refl

pub most_next : (height : ℕ → ℕ) (n : ℕ) → most_below height (n + 1) ≡ max (most_below height n) (height n)
unfolding most_below
most_next height n = let more : n + 1 ≡ suc n = omega arith in rw more refl

pub most_least : (height : ℕ → ℕ) (n : ℕ) → 1 ≤ most_below height n
unfolding most_below
most_least height zero = omega arith
most_least height (suc n) = omega (arith, most_least height n)

-- ---- what the walk of a list answers, once its parts have

pub si_tells : (t : Table) (bid : ℕ) (e : BlockEntry) (limit count most : ℕ) → 0 < limit → IsSiList t bid e → count ≡ count_in (body_of t e) → (at_leaves t e count limit ≡ None) × (most ≡ most_below (leaf_height t e limit) count) → (sub_fault t limit bid ≡ None) × (most ≡ sub_height t limit bid)
si_tells t bid e limit count most room is named told =
    let more : limit - 1 + 1 ≡ limit = omega (arith, room) in (
      si_fault t bid e limit (limit - 1) is more ∙ (ap (λ n. at_leaves t e n limit) (sym named) ∙ told.0),
      told.1 ∙ (ap (most_below (leaf_height t e limit)) named ∙ sym (si_height t bid e limit (limit - 1) is more)),
    )

pub list_tells : (t : Table) (bid limit below most : ℕ) (xs : List Sub) → below + 1 ≡ limit → IsList t bid → xs ≡ subs_of t bid → (first_of (entry_fault t (sub_fault t below)) xs ≡ None) × (most ≡ most_among (entry_height (sub_height t below)) xs) → (sub_fault t limit bid ≡ None) × (most + 1 ≡ sub_height t limit bid)
list_tells t bid limit below most xs more is are told = (
  sub_fault_list t limit below bid (omega (arith, more)) is.named ∙ then_none _ _ is.list ∙ ap (first_of (entry_fault t (sub_fault t below))) (sym are) ∙ told.0,
  ap (λ n. n + 1) (told.1 ∙ ap (most_among (entry_height (sub_height t below))) are) ∙ sym (sub_height_list t limit below bid (omega (arith, more)) is.named),
)
