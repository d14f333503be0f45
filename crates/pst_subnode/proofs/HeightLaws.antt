-- Heights and limits of subnode lists, and lists of the same key.
use Rattle.std.proofs.Common.{◌≡◌, ℕ, zero, suc, ◌-◌, ◌<◌, ◌≤◌, max, Bool, true, false, List, [], ◌∷◌, length, Option, Some, None, refl, sym, ap, ◌∙◌, arith}
use Rattle.std.specs.Prelude.{cond, slice_index_or}
use Rattle.std.specs.List.{Contains}
use Rattle.pst_fault.specs.declared.fault.Fault.{Fault}
use Rattle.pst_fault.proofs.FirstLemmas.{none_then, then_none}
use Rattle.pst_page.specs.declared.entry.BlockEntry.{BlockEntry}
use Rattle.pst_block.specs.Block.{bid_key}
use Rattle.pst_block.specs.Table.{Table, entry_of}
use Rattle.pst_btree.specs.Entries.{first_with}
use Rattle.pst_datatree.specs.Bid.{is_no_block, is_internal}
use Rattle.pst_datatree.specs.Data.{block_missing, data_fault}
use Rattle.pst_datatree.proofs.KeyLemmas.{none_same, entry_same, missing_same}
use Rattle.pst_datatree.proofs.AddLemmas.{internal_same}
use Rattle.pst_subnode.specs.declared.sub.Sub.{Sub}
use Rattle.pst_subnode.specs.List.{sub_nid, bad_list, list_block_fault, list_fault, subs_of}
use Rattle.pst_subnode.specs.Tree.{most_among, entry_fault, entry_height, nesting, sub_fault, sub_height}
use Rattle.pst_fault.specs.Each.{first_of}
use Rattle.pst_subnode.specs.Laws.{BelowLaw, LowerLaw, HeightLaw, HeightLimitLaw, NoHeightLaw, SameSubLaw}
use Rattle.pst_subnode.proofs.SubLemmas.{sub_fault_none, sub_fault_below, sub_fault_list, sub_height_suc}
use Rattle.pst_subnode.proofs.TreeLaws.{no_subs, has_within, has_agrees, entry_law, one_law}
use Rattle.pst_subnode.proofs.MapLaws.{found_there, found_below}

-- ---- limits

pub height_law : HeightLaw
height_law t limit bid h =
    let w = has_within t limit bid h in
    (w.1, (λ other le. let a = has_agrees t bid (sub_height t limit bid) (subs_of t bid) w.0 other le in (a.first, sym a.height_is)))

pub limit_law : HeightLimitLaw
limit_law t limit other bid h k = (one_law t bid (sub_height t limit bid) (sub_height t other bid) (subs_of t bid) (subs_of t bid) (has_within t limit bid h).0 (has_within t other bid k).0).0

-- a list with an entry is let in by a limit that is not 0
some_limit : (t : Table) (limit bid : ℕ) (s : Sub) → sub_fault t limit bid ≡ None → Contains (subs_of t bid) s → 0 < limit
some_limit t zero bid s h w = by_test (is_no_block bid) refl
  where
    by_test : (v : Bool) → is_no_block bid ≡ v → 0 < 0
    by_test true e = let bad : Contains [] s = (rw (no_subs t bid e) at w) in absurd (omega (arith, bad.1))
    by_test false e = let bad : Some nesting ≡ None = sym (sub_fault_below t 0 bid refl e) ∙ h in cc
some_limit t (suc limit) bid s h w = omega arith

pub entry_below : (t : Table) (limit bid : ℕ) (s : Sub) → sub_fault t limit bid ≡ None → Contains (subs_of t bid) s → sub_fault t (limit - 1) s.bid_sub ≡ None
entry_below t zero bid s h w = let bad : 0 < 0 = some_limit t 0 bid s h w in absurd (omega (arith, bad))
entry_below t (suc limit) bid s h w = let same : suc limit - 1 ≡ limit = omega arith in rw same (entry_law t limit bid s h w).1

pub below_law : BelowLaw
below_law t limit bid nid s h is =
    let w = (found_there nid (subs_of t bid) s is).0 in
    (some_limit t limit bid s h w, entry_below t limit bid s h w)

-- ---- heights

height_among : (height : Sub → ℕ) (xs : List Sub) (s : Sub) → Contains xs s → height s ≤ most_among height xs
unfolding most_among
height_among height [] s w = absurd (omega (arith, w.1))
height_among height (x ∷ rest) s w = by_place w.0 w.1 w.2 (λ v. height_among height rest s v)
  where
    by_place : (k : ℕ) → k < length (x ∷ rest) → slice_index_or (x ∷ rest) k s ≡ s → (Contains rest s → height s ≤ most_among height rest) → height s ≤ max (height x) (most_among height rest)
    by_place zero lt is later = let same : height x ≡ height s = ap height is in omega (arith, same)
    by_place (suc k) lt is later = omega (arith, later (k, omega arith, is))

lower_list : (t : Table) (limit bid : ℕ) (s : Sub) → is_no_block bid ≡ false → sub_fault t (suc limit) bid ≡ None → Contains (subs_of t bid) s → sub_height t (suc limit) s.bid_sub < sub_height t (suc limit) bid
unfolding entry_height
lower_list t limit bid s e h w =
    let one = (entry_law t limit bid s h w).1 in
    let own = height_law t limit s.bid_sub one in
    let same : sub_height t (suc limit) s.bid_sub ≡ sub_height t limit s.bid_sub = (own.1 (suc limit) (omega (arith, own.0))).1 in
    let high : sub_height t limit s.bid_sub ≤ most_among (entry_height (sub_height t limit)) (subs_of t bid) = height_among (entry_height (sub_height t limit)) (subs_of t bid) s w in
    omega (arith, same, high, sub_height_suc t limit bid e)

pub lower_law : LowerLaw
lower_law t zero bid s h w = let bad : 0 < 0 = some_limit t 0 bid s h w in absurd (omega (arith, bad))
lower_law t (suc limit) bid s h w = by_test (is_no_block bid) refl
  where
    by_test : (v : Bool) → is_no_block bid ≡ v → sub_height t (suc limit) s.bid_sub < sub_height t (suc limit) bid
    by_test true e = let bad : Contains [] s = (rw (no_subs t bid e) at w) in absurd (omega (arith, bad.1))
    by_test false e = lower_list t limit bid s e h w

pub no_height_law : NoHeightLaw
no_height_law t zero bid h z = by_test (is_no_block bid) refl
  where
    by_test : (v : Bool) → is_no_block bid ≡ v → subs_of t bid ≡ []
    by_test true e = no_subs t bid e
    by_test false e = let bad : Some nesting ≡ None = sym (sub_fault_below t 0 bid refl e) ∙ h in cc
no_height_law t (suc limit) bid h z = by_test (is_no_block bid) refl
  where
    by_test : (v : Bool) → is_no_block bid ≡ v → subs_of t bid ≡ []
    by_test true e = no_subs t bid e
    by_test false e = absurd (omega (arith, z, sub_height_suc t limit bid e))

-- ---- the same key

pub subs_same : (t : Table) (a b : ℕ) → bid_key a ≡ bid_key b → subs_of t a ≡ subs_of t b
unfolding subs_of
subs_same t a b e = rw (none_same a b e, entry_same t a b e) refl

-- a list without fault is told of by no identifier
pub list_none_same : (t : Table) (a b : ℕ) → bid_key a ≡ bid_key b → list_fault t a ≡ None → list_fault t b ≡ None
unfolding list_fault
list_none_same t a b e h =
    let part : Bool → BlockEntry → Option Fault = λ v x. cond v (list_block_fault t x) (Some (bad_list x)) in
    rw (← internal_same a b e, ← entry_same t a b e) (missing_same (block_missing a) (block_missing b) (part (is_internal a)) (entry_of t a) h)

none_same_by : (t : Table) (limit a b : ℕ) → bid_key a ≡ bid_key b → sub_fault t limit a ≡ None → sub_fault t limit b ≡ None
none_same_by t limit a b e h = by_test (is_no_block b) refl limit h
  where
    by_test : (v : Bool) → is_no_block b ≡ v → (n : ℕ) → sub_fault t n a ≡ None → sub_fault t n b ≡ None
    by_test true f n k = sub_fault_none t n b f
    by_test false f zero k = let bad : Some nesting ≡ None = sym (sub_fault_below t 0 a refl (none_same a b e ∙ f)) ∙ k in cc
    by_test false f (suc n) k =
        let p = none_then (list_fault t a) (first_of (entry_fault t (sub_fault t n)) (subs_of t a)) (sym (sub_fault_list t (suc n) n a (omega arith) (none_same a b e ∙ f)) ∙ k) in
        sub_fault_list t (suc n) n b (omega arith) f ∙ (then_none _ _ (list_none_same t a b e p.0) ∙ rw (← subs_same t a b e) p.1)

pub height_of_same : (t : Table) (limit a b : ℕ) → bid_key a ≡ bid_key b → sub_height t limit a ≡ sub_height t limit b
unfolding sub_height
height_of_same t zero a b e = refl
height_of_same t (suc n) a b e = rw (none_same a b e, subs_same t a b e) refl

pub same_sub_law : SameSubLaw
same_sub_law t a b e = (
  subs_same t a b e,
  (λ n. (none_same_by t n a b e, none_same_by t n b a (sym e))),
  (λ n. height_of_same t n a b e),
)

-- ---- one by one, for what stands above

pub height_low : (t : Table) (limit bid : ℕ) → sub_fault t limit bid ≡ None → sub_height t limit bid ≤ limit
height_low t limit bid h = (height_law t limit bid h).0

pub found_entry : (t : Table) (bid nid : ℕ) (s : Sub) → first_with sub_nid nid (subs_of t bid) ≡ Some s → Contains (subs_of t bid) s
found_entry t bid nid s is = (found_there nid (subs_of t bid) s is).0

pub entry_data : (t : Table) (limit bid : ℕ) (s : Sub) → sub_fault t limit bid ≡ None → Contains (subs_of t bid) s → data_fault t s.bid_data ≡ None
entry_data t limit bid s h w = (found_below t limit bid s h w).0

pub entry_subs : (t : Table) (limit bid : ℕ) (s : Sub) → sub_fault t limit bid ≡ None → Contains (subs_of t bid) s → sub_fault t limit s.bid_sub ≡ None
entry_subs t limit bid s h w = (found_below t limit bid s h w).1
