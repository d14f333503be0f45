-- What the blocks of subnode lists name.
use Rattle.std.proofs.Common.{◌≡◌, ℕ, zero, suc, ◌<◌, Bool, true, false, List, [], ◌∷◌, length, Some, None, refl, sym, ap, ◌∙◌, arith, ◌⊎◌, inl, inr}
use Rattle.std.specs.Prelude.{if◌then◌else◌, slice_index_or}
use Rattle.std.specs.List.{Contains}
use Rattle.std.proofs.lemmas.Bool.Decides.{nat_tests}
use Rattle.std.proofs.lemmas.List.Elements.{Contains-append_cases}
use Rattle.pst_fault.specs.First.{◌then◌, holds_or, join_below}
use Rattle.pst_fault.proofs.FirstLemmas.{none_then, holds_or_none, guard_then}
use Rattle.pst_fault.proofs.EachLemmas.{there_is}
use Rattle.pst_page.specs.declared.entry.BlockEntry.{BlockEntry}
use Rattle.pst_block.specs.Block.{bid_key}
use Rattle.pst_block.specs.Table.{Table, entry_of, body_of}
use Rattle.pst_datatree.specs.Bid.{is_internal, is_no_block}
use Rattle.pst_datatree.specs.Data.{block_missing}
use Rattle.pst_datatree.specs.Names.{IsInternal, IsInTree}
use Rattle.pst_datatree.proofs.AddLemmas.{is_internal_same, entry_key}
use Rattle.pst_subnode.specs.declared.sub.Sub.{Sub}
use Rattle.pst_datatree.specs.List.{btype_in, count_in}
use Rattle.pst_subnode.specs.Body.{leaf_bid_in, sub_in, sub_at, subs_in, is_slblock, is_siblock, has_level_one}
use Rattle.pst_subnode.specs.List.{subs_of, slblock_subs, block_subs, slblock_fault, shape_fault, siblock_fault, list_block_fault, list_fault, bad_list}
use Rattle.pst_subnode.specs.Tree.{nesting, sub_fault}
use Rattle.pst_subnode.specs.Heights.{HasHeight}
use Rattle.pst_subnode.specs.Marks.{IsList, IsSiList, rank_of}
use Rattle.pst_subnode.specs.Reach.{NamesLeaf, NamesBelow, NamesNext, of_tree, of_siblock, of_slblock, Leads, goes_on, IsReached}
use Rattle.pst_subnode.proofs.GuessLemmas.{entry_there}
use Rattle.pst_subnode.proofs.SubLemmas.{sub_height_none, sub_fault_below, sub_fault_list}
use Rattle.pst_subnode.proofs.ListLaws.{level_zero, level_one}
use Rattle.pst_subnode.proofs.LeafLemmas.{si_of}

-- ---- chains

pub names_same : (t : Table) (a b next : ℕ) → bid_key a ≡ bid_key b → NamesNext t b next → NamesNext t a next
names_same t a b next same (of_tree _ _ e is names) = of_tree a next e (is_internal_same t a b e same is) names
names_same t a b next same (of_siblock _ _ e is names) = of_siblock a next e (is_internal_same t a b e same is) names
names_same t a b next same (of_slblock _ _ e is names) = of_slblock a next e (is_internal_same t a b e same is) names

-- the blocks of a data tree to which a chain leads
pub tree_reached : (t : Table) (from : List ℕ) (bid key : ℕ) → Leads t from bid → IsInTree t bid key → IsReached t from key
tree_reached t from bid key led w =
    elim w.2 [
      | inl own ↦ (bid, w.0, led, w.1, sym own ∙ entry_key t bid w.0 w.1.0)
      | inr below ↦ (below.0, below.2.0, goes_on bid below.0 led (of_tree bid below.0 w.0 w.1 below.1), below.2.1, below.2.2)
    ]

-- ---- a list without fault

-- it has a block, whose parts have none
pub record IsListBlock (t : Table) (bid : ℕ) (e : BlockEntry) : Type 0 where
  pub internal : IsInternal t bid e
  pub shape : shape_fault t e ≡ None

pub list_block : (t : Table) (bid : ℕ) → list_fault t bid ≡ None → (e : BlockEntry) × IsListBlock t bid e
unfolding list_fault list_block_fault
list_block t bid none =
    let w = there_is (block_missing bid) (λ e. if is_internal bid then list_block_fault t e else Some (bad_list e)) (entry_of t bid) none in
    let p = guard_then (is_internal bid) (list_block_fault t w.0) (bad_list w.0) w.2 in
    (w.0, record { internal = (w.1, p.0); shape = (none_then (shape_fault t w.0) _ p.1).0 })

rank_zero : (t : Table) (bid : ℕ) (e : BlockEntry) → entry_of t bid ≡ Some e → rank_of t bid ≡ 0 → has_level_one (body_of t e) ≡ false
unfolding rank_of
rank_zero t bid e there rank = by_level (has_level_one (body_of t e)) (rw there at rank)
  where
    by_level : (v : Bool) → (let rank : ℕ = if v then 1 else 0 in rank ≡ 0) → v ≡ false
    by_level true h = absurd (omega (arith, h))
    by_level false h = refl

-- it is an SLBLOCK
pub record IsSlList (t : Table) (bid : ℕ) (e : BlockEntry) : Type 0 where
  pub internal : IsInternal t bid e
  pub body : is_slblock (body_of t e) ≡ true
  pub subs : subs_of t bid ≡ subs_in (body_of t e)

pub sl_list : (t : Table) (bid : ℕ) → IsList t bid → rank_of t bid ≡ 0 → (e : BlockEntry) × IsSlList t bid e
unfolding shape_fault slblock_fault subs_of block_subs slblock_subs
sl_list t bid is rank =
    let w = list_block t bid is.list in
    let level = rank_zero t bid w.0 w.1.internal.0 rank in
    let body : is_slblock (body_of t w.0) ≡ true = holds_or_none _ _ (rw level at w.1.shape) in
    (w.0, record { internal = w.1.internal; body = body; subs = rw (is.named, w.1.internal.0, level, body) refl })

-- ---- what it names

below_one : (body : List ℕ) (n : ℕ) (s : Sub) → Contains (join_below (sub_at body) n) s → (i : ℕ) × (i < n) × (s ≡ sub_in body i)
below_one body zero s w = absurd (omega (arith, w.1))
below_one body (suc n) s w =
    elim (Contains-append_cases (join_below (sub_at body) n) (sub_at body n) s w) [
      | inl before ↦ let v = below_one body n s before in (v.0, omega (arith, v.1), v.2)
      | inr last ↦ (n, omega arith, by_place last.0 last.1 last.2)
    ]
  where
    by_place : (k : ℕ) → k < length (sub_in body n ∷ []) → slice_index_or (sub_in body n ∷ []) k s ≡ s → s ≡ sub_in body n
    by_place zero lt is = sym is
    by_place (suc k) lt is = absurd (omega arith)

entry_in : (body : List ℕ) (s : Sub) → Contains (subs_in body) s → (i : ℕ) × (i < count_in body) × (s ≡ sub_in body i)
unfolding subs_in
entry_in body s w = below_one body (count_in body) s w

pub slblock_names : (t : Table) (bid : ℕ) (s : Sub) → IsList t bid → rank_of t bid ≡ 0 → Contains (subs_of t bid) s → NamesNext t bid s.bid_data × NamesNext t bid s.bid_sub
slblock_names t bid s is rank w =
    let sl = sl_list t bid is rank in
    let v = entry_in (body_of t sl.0) s (rw sl.1.subs at w) in (
      of_slblock bid s.bid_data sl.0 sl.1.internal (sl.1.body, (v.0, v.1, inl (ap (λ x. x.bid_data) v.2))),
      of_slblock bid s.bid_sub sl.0 sl.1.internal (sl.1.body, (v.0, v.1, inr (ap (λ x. x.bid_sub) v.2))),
    )

pub siblock_names : (t : Table) (bid : ℕ) (e : BlockEntry) (i : ℕ) → IsSiList t bid e → i < count_in (body_of t e) → NamesNext t bid (leaf_bid_in (body_of t e) i)
siblock_names t bid e i is lt =
    let w = list_block t bid is.is_list.list in
    let one : w.0 ≡ e = let both : Some w.0 ≡ Some e = sym w.1.internal.0 ∙ is.entry in cc in
    of_siblock bid (leaf_bid_in (body_of t e) i) e (rw one at w.1.internal) ((si_of t bid e is).body, (i, lt, refl))

-- ---- and nothing else

pub slblock_type : (body : List ℕ) → is_slblock body ≡ true → btype_in body ≡ 2
unfolding is_slblock
slblock_type body h = grind (arith, nat_tests)

pub siblock_type : (body : List ℕ) → is_siblock body ≡ true → btype_in body ≡ 2
unfolding is_siblock
siblock_type body h = grind (arith, nat_tests)

one_entry : (t : Table) (bid : ℕ) (a b : BlockEntry) → IsInternal t bid a → IsInternal t bid b → a ≡ b
one_entry t bid a b this other = let both : Some a ≡ Some b = sym this.0 ∙ other.0 in cc

-- what an SLBLOCK names stands in an entry
pub slblock_only : (t : Table) (bid next : ℕ) → IsList t bid → rank_of t bid ≡ 0 → NamesNext t bid next → (s : Sub) × Contains (subs_of t bid) s × ((next ≡ s.bid_data) ⊎ (next ≡ s.bid_sub))
slblock_only t bid next is rank names = let sl = sl_list t bid is rank in by_names bid next sl.0 sl.1 names
  where
    by_names : (b n : ℕ) (e : BlockEntry) → IsSlList t b e → NamesNext t b n → (s : Sub) × Contains (subs_of t b) s × ((n ≡ s.bid_data) ⊎ (n ≡ s.bid_sub))
    by_names b n e sl (of_tree _ _ x internal w) =
        let same : btype_in (body_of t e) ≡ 1 = ap (λ y. btype_in (body_of t y)) (one_entry t b e x sl.internal internal) ∙ w.0 in
        let type = slblock_type (body_of t e) sl.body in
        absurd (omega (arith, same, type))
    by_names b n e sl (of_siblock _ _ x internal w) =
        let same : is_siblock (body_of t e) ≡ true = ap (λ y. is_siblock (body_of t y)) (one_entry t b e x sl.internal internal) ∙ w.0 in
        let bad : true ≡ false = sym (level_one (body_of t e) same) ∙ level_zero (body_of t e) sl.body in cc
    by_names b n e sl (of_slblock _ _ x internal w) =
        let one = one_entry t b e x sl.internal internal in
        let v : NamesBelow (body_of t e) n = rw one w in
        (sub_in (body_of t e) v.1.0, rw sl.subs (entry_there (body_of t e) v.1.0 v.1.1), v.1.2)

-- what an SIBLOCK names is one of its SLBLOCKs
pub siblock_only : (t : Table) (bid next : ℕ) (e : BlockEntry) → IsSiList t bid e → NamesNext t bid next → (i : ℕ) × (i < count_in (body_of t e)) × (next ≡ leaf_bid_in (body_of t e) i)
siblock_only t bid next e is names = let w = list_block t bid is.is_list.list in by_names bid next e (si_of t bid e is).body is.entry names
  where
    by_entry : (b : ℕ) (x y : BlockEntry) → entry_of t b ≡ Some x → IsInternal t b y → x ≡ y
    by_entry b x y there internal = let both : Some x ≡ Some y = sym there ∙ internal.0 in cc

    by_names : (b n : ℕ) (x : BlockEntry) → is_siblock (body_of t x) ≡ true → entry_of t b ≡ Some x → NamesNext t b n → (i : ℕ) × (i < count_in (body_of t x)) × (n ≡ leaf_bid_in (body_of t x) i)
    by_names b n x si there (of_tree _ _ y internal w) =
        let same : btype_in (body_of t x) ≡ 1 = ap (λ z. btype_in (body_of t z)) (by_entry b x y there internal) ∙ w.0 in
        let type = siblock_type (body_of t x) si in
        absurd (omega (arith, same, type))
    by_names b n x si there (of_siblock _ _ y internal w) = let v : NamesLeaf (body_of t x) n = rw (by_entry b x y there internal) w in v.1
    by_names b n x si there (of_slblock _ _ y internal w) =
        let same : is_slblock (body_of t x) ≡ true = ap (λ z. is_slblock (body_of t z)) (by_entry b x y there internal) ∙ w.0 in
        let bad : true ≡ false = sym (level_one (body_of t x) si) ∙ level_zero (body_of t x) same in cc

-- ---- a list of some height

shape_type : (t : Table) (e : BlockEntry) → shape_fault t e ≡ None → btype_in (body_of t e) ≡ 2
unfolding shape_fault siblock_fault slblock_fault
shape_type t e none = by_level (has_level_one (body_of t e)) none
  where
    by_level : (v : Bool) → (if v then siblock_fault t e else slblock_fault t e) ≡ None → btype_in (body_of t e) ≡ 2
    by_level true h = siblock_type (body_of t e) (holds_or_none _ _ (none_then (holds_or (is_siblock (body_of t e)) (bad_list e)) _ h).0)
    by_level false h = slblock_type (body_of t e) (holds_or_none _ _ h)

list_none : (t : Table) (limit bid : ℕ) → is_no_block bid ≡ false → sub_fault t limit bid ≡ None → list_fault t bid ≡ None
list_none t zero bid named none = let bad : Some nesting ≡ None = sym (sub_fault_below t 0 bid refl named) ∙ none in cc
list_none t (suc k) bid named none = (none_then (list_fault t bid) _ (sym (sub_fault_list t (suc k) k bid (omega arith) named) ∙ none)).0

-- its block is that of no data tree
pub list_type : (t : Table) (bid height : ℕ) (e : BlockEntry) → IsInternal t bid e → 0 < height → HasHeight t bid height → btype_in (body_of t e) ≡ 2
list_type t bid height e internal more has = by_test (is_no_block bid) refl
  where
    by_test : (v : Bool) → is_no_block bid ≡ v → btype_in (body_of t e) ≡ 2
    by_test true none = absurd (omega (arith, more, has.2, sub_height_none t has.0 bid none))
    by_test false named =
        let w = list_block t bid (list_none t has.0 bid named has.1) in
        rw (one_entry t bid e w.0 internal w.1.internal) (shape_type t w.0 w.1.shape)
