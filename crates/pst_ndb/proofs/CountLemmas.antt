-- What is known in the end is what chains lead to, and how much that is.
use Rattle.std.proofs.Common.{◌≡◌, ℕ, zero, suc, ◌+◌, Bool, true, false, List, [], ◌∷◌, ◌++◌, length, map, Some, None, refl, sym, ap, ◌∙◌, arith, ◌⊎◌, inl, inr, length-append}
use Rattle.std.specs.Prelude.{nat_eq}
use Rattle.std.specs.List.{Contains, IsDistinct, list_any, AllByRecursion}
use Rattle.std.specs.List.Sorted.{IsStrictlySortedBy}
use Rattle.std.specs.Ordering.{nat_cmp, eq_by_cmp}
use Rattle.std.specs.Cmp.{unsigned_ties, nat_eq_equiv}
use Rattle.std.specs.Map.{keys_of}
use Rattle.std.proofs.lemmas.Bool.{eqb-true}
use Rattle.std.proofs.lemmas.Map.Keys.{IsDistinct-from_sorted}
use Rattle.std.proofs.lemmas.Map.Made.{length-from_same_keys}
use Rattle.std.proofs.lemmas.Map.Views.{Contains-from_any, list_any-from_Contains}
use Rattle.std.proofs.lemmas.List.Elements.{Contains-append_left, Contains-append_right, Contains-append_cases}
use Rattle.pst_fault.proofs.GeneralLemmas.{same_test}
use Rattle.pst_fault.proofs.EachLemmas.{contains_here, contains_later}
use Rattle.pst_page.specs.declared.entry.BlockEntry.{BlockEntry}
use Rattle.pst_page.specs.declared.entry.NodeEntry.{NodeEntry}
use Rattle.pst_block.specs.Block.{bid_key}
use Rattle.pst_block.specs.Table.{Table, body_of}
use Rattle.pst_datatree.specs.declared.seen.Seen.{Seen}
use Rattle.pst_datatree.specs.List.{btype_in}
use Rattle.pst_datatree.specs.Names.{IsInternal}
use Rattle.pst_datatree.specs.Seen as seen
use Rattle.pst_datatree.proofs.SeenLemmas.{held_key, key_held, has_held}
use Rattle.pst_datatree.proofs.AddLemmas.{tree_type}
use Rattle.pst_subnode.specs.declared.sub.Sub.{Sub}
use Rattle.pst_subnode.specs.declared.heights.Heights.{Heights}
use Rattle.pst_subnode.specs.Heights as heights
use Rattle.pst_subnode.specs.Reach.{NamesNext, of_tree, of_siblock, of_slblock, Leads, begins, goes_on, IsReached}
use Rattle.pst_subnode.specs.Known as both
use Rattle.pst_subnode.proofs.StateLemmas.{state_key, key_state}
use Rattle.pst_subnode.proofs.AddLemmas.{contains_cases}
use Rattle.pst_subnode.proofs.ReachLemmas.{slblock_type, siblock_type, list_type}
use Rattle.pst_ndb.specs.declared.check_nodes.SoundTrees.{SoundTrees}
use Rattle.pst_ndb.specs.Counts.{roots_of, capped, AreExpanded, ExpansionLaw}
use Rattle.pst_ndb.specs.Known.{IsKnownTrue, IsNew, IsCounted, AddsKnown, entry_of_node}

-- ---- lists in which no number stands twice

all_alike : (x : ℕ) (ys : List ℕ) → AllByRecursion (λ y. eq_by_cmp nat_cmp x y ≡ false) ys → AllByRecursion (λ y. nat_eq x y ≡ false) ys
all_alike x [] h = h
all_alike x (y ∷ rest) h = (unsigned_ties x y ∙ h.0, all_alike x rest h.1)

distinct_alike : (xs : List ℕ) → IsDistinct (eq_by_cmp nat_cmp) xs → IsDistinct nat_eq xs
unfolding IsDistinct
distinct_alike [] h = h
distinct_alike (x ∷ rest) h = (all_alike x rest h.0, distinct_alike rest h.1)

rising_distinct : (xs : List ℕ) → IsStrictlySortedBy nat_cmp xs → IsDistinct nat_eq xs
rising_distinct xs h = distinct_alike xs (IsDistinct-from_sorted nat_cmp xs h)

apart : (x y : ℕ) → (x ≡ y → ⊥) → nat_eq x y ≡ false
apart x y not = by_test (nat_eq x y) refl
  where
    by_test : (v : Bool) → nat_eq x y ≡ v → nat_eq x y ≡ false
    by_test true is = absurd (not (eqb-true x y is))
    by_test false is = is

all_apart : (x : ℕ) (ys : List ℕ) → (Contains ys x → ⊥) → AllByRecursion (λ y. nat_eq x y ≡ false) ys
all_apart x [] none = tt
all_apart x (y ∷ rest) none = (apart x y (λ is. none (rw (← is) (contains_here x rest))), all_apart x rest (λ w. none (contains_later y x rest w)))

all_append : (x : ℕ) (xs ys : List ℕ) → AllByRecursion (λ y. nat_eq x y ≡ false) xs → AllByRecursion (λ y. nat_eq x y ≡ false) ys → AllByRecursion (λ y. nat_eq x y ≡ false) (xs ++ ys)
all_append x [] ys a b = b
all_append x (y ∷ rest) ys a b = (a.0, all_append x rest ys a.1 b)

distinct_append : (xs ys : List ℕ) → IsDistinct nat_eq xs → IsDistinct nat_eq ys → ((k : ℕ) → Contains xs k → Contains ys k → ⊥) → IsDistinct nat_eq (xs ++ ys)
unfolding IsDistinct
distinct_append [] ys a b none = b
distinct_append (x ∷ rest) ys a b none =
    (all_append x rest ys a.0 (all_apart x ys (none x (contains_here x rest))), distinct_append rest ys a.1 b (λ k w. none k (contains_later x k rest w)))

-- ---- one count

member_goes : (xs ys : List ℕ) (q : ℕ) → (Contains xs q → Contains ys q) → list_any (nat_eq q) xs ≡ true → list_any (nat_eq q) ys ≡ true
member_goes xs ys q goes is = list_any-from_Contains nat_eq_equiv q ys (goes (Contains-from_any (λ x y h. eqb-true x y h) q xs is))

pub count_law : ExpansionLaw
count_law t nodes a b this other =
    let one = length-from_same_keys nat_eq_equiv this.0 other.0 this.1 other.1 (λ q. same_test _ _ (member_goes this.0 other.0 q (λ w. (other.2 q).1 ((this.2 q).0 w))) (member_goes other.0 this.0 q (λ w. (this.2 q).1 ((other.2 q).0 w)))) in
    this.3 ∙ ap capped one ∙ sym other.3

-- ---- where chains begin

roots_in : (nodes : List NodeEntry) (sub : Sub) → Contains (map entry_of_node nodes) sub → Contains (roots_of nodes) sub.bid_data × Contains (roots_of nodes) sub.bid_sub
roots_in [] sub w = absurd (omega (arith, w.1))
roots_in (e ∷ rest) sub w =
    elim (contains_cases (entry_of_node e) (map entry_of_node rest) sub w) [
      | inl here ↦ (
        rw (← here) (contains_here e.bid_data (e.bid_sub ∷ roots_of rest)),
        rw (← here) (contains_later e.bid_data e.bid_sub (e.bid_sub ∷ roots_of rest) (contains_here e.bid_sub (roots_of rest))),
      )
      | inr later ↦
          let both = roots_in rest sub later in (
            contains_later e.bid_data sub.bid_data (e.bid_sub ∷ roots_of rest) (contains_later e.bid_sub sub.bid_data (roots_of rest) both.0),
            contains_later e.bid_data sub.bid_sub (e.bid_sub ∷ roots_of rest) (contains_later e.bid_sub sub.bid_sub (roots_of rest) both.1),
          )
    ]

led_each : (t : Table) (nodes : List NodeEntry) → both.AreLedEach t (map entry_of_node nodes) (roots_of nodes)
led_each t nodes sub w = let in_roots = roots_in nodes sub w in (begins sub.bid_data in_roots.0, begins sub.bid_sub in_roots.1)

-- ---- what is known has all to which chains lead

from_roots : (t : Table) (nodes : List NodeEntry) (s : Seen) (h : Heights) (bid : ℕ) (e : BlockEntry) → both.AreKnownEach t s h (map entry_of_node nodes) → Contains (roots_of nodes) bid → IsInternal t bid e → both.IsKnownBlock s h bid
from_roots t [] s h bid e known w is = absurd (omega (arith, w.1))
from_roots t (n ∷ rest) s h bid e known w is = by_first (contains_cases n.bid_data (n.bid_sub ∷ roots_of rest) bid w) (from_roots t rest s h bid e (λ sub v. known sub (contains_later (entry_of_node n) sub (map entry_of_node rest) v)))
  where
    own : both.IsKnownEntry t s h (entry_of_node n)
    own = known (entry_of_node n) (contains_here (entry_of_node n) (map entry_of_node rest))

    by_second : (n.bid_sub ≡ bid) ⊎ Contains (roots_of rest) bid → (Contains (roots_of rest) bid → IsInternal t bid e → both.IsKnownBlock s h bid) → both.IsKnownBlock s h bid
    by_second (inl here) later = inr (rw (← here) (own.1 e (rw here is)))
    by_second (inr v) later = later v is

    by_first : (n.bid_data ≡ bid) ⊎ Contains (n.bid_sub ∷ roots_of rest) bid → (Contains (roots_of rest) bid → IsInternal t bid e → both.IsKnownBlock s h bid) → both.IsKnownBlock s h bid
    by_first (inl here) later = inl (rw (← here) (own.0 e (rw here is)))
    by_first (inr v) later = by_second (contains_cases n.bid_sub (roots_of rest) bid v) later

-- a known block of a data tree is no list's
no_list : (t : Table) (s : Seen) (bid : ℕ) (e : BlockEntry) → seen.IsSeenTrue t s → IsInternal t bid e → seen.has_tree s bid ≡ true → btype_in (body_of t e) ≡ 2 → ⊥
no_list t s bid e true_of is known type = let one = tree_type t e (true_of.holds bid e is.0 known) in absurd (omega (arith, one, type))

along : (t : Table) (s : Seen) (h : Heights) (a b : ℕ) (e : BlockEntry) → seen.IsSeenTrue t s → both.AreClosed t s h → NamesNext t a b → ((y : BlockEntry) → IsInternal t a y → both.IsKnownBlock s h a) → IsInternal t b e → both.IsKnownBlock s h b
along t s h a b e true_of closed names known is = by_known (known (block_named names).0 (block_named names).1)
  where
    block_named : NamesNext t a b → (y : BlockEntry) × IsInternal t a y
    block_named (of_tree _ _ y internal w) = (y, internal)
    block_named (of_siblock _ _ y internal w) = (y, internal)
    block_named (of_slblock _ _ y internal w) = (y, internal)

    by_tree : seen.has_tree s a ≡ true → NamesNext t a b → both.IsKnownBlock s h b
    by_tree tree (of_tree _ _ y internal w) = inl (closed.trees a y tree internal b e w is)
    by_tree tree (of_siblock _ _ y internal w) = absurd (no_list t s a y true_of internal tree (siblock_type (body_of t y) w.0))
    by_tree tree (of_slblock _ _ y internal w) = absurd (no_list t s a y true_of internal tree (slblock_type (body_of t y) w.0))

    by_known : both.IsKnownBlock s h a → both.IsKnownBlock s h b
    by_known (inl tree) = by_tree tree names
    by_known (inr high) = closed.lists a b e high names is

reached_known : (t : Table) (nodes : List NodeEntry) (s : Seen) (h : Heights) (bid : ℕ) (e : BlockEntry) → seen.IsSeenTrue t s → both.AreClosed t s h → both.AreKnownEach t s h (map entry_of_node nodes) → Leads t (roots_of nodes) bid → IsInternal t bid e → both.IsKnownBlock s h bid
reached_known t nodes s h bid e true_of closed known (begins _ w) is = from_roots t nodes s h bid e known w is
reached_known t nodes s h bid e true_of closed known (goes_on before _ lead names) is =
    along t s h before bid e true_of closed names (λ y internal. reached_known t nodes s h before y true_of closed known lead internal) is

-- ---- no block is known twice

keys_apart : (t : Table) (from : List ℕ) (k : SoundTrees) → IsKnownTrue t k → both.AreReached t from k.seen k.heights → (key : ℕ) → Contains (seen.tree_keys k.seen) key → Contains (heights.list_keys k.heights) key → ⊥
keys_apart t from k true_of reached key in_trees in_lists =
    let held = key_held k.seen key in_trees in
    let state = key_state k.heights key in_lists in
    let w = reached.trees key held in
    let tree : seen.has_tree k.seen w.0 ≡ true = has_held k.seen w.0 ∙ (ap (seen.holds_tree k.seen) (sym w.4) ∙ held) in
    let at : heights.state_of k.heights w.0 ≡ Some state.0 = ap (heights.state_at k.heights) (sym w.4) ∙ state.1 in
    by_state w.0 w.1 state.0 w.3 tree at
  where
    by_state : (bid : ℕ) (e : BlockEntry) (n : ℕ) → IsInternal t bid e → seen.has_tree k.seen bid ≡ true → heights.state_of k.heights bid ≡ Some n → ⊥
    by_state bid e zero is tree at = true_of.lists.unmarked bid at
    by_state bid e (suc n) is tree at = no_list t k.seen bid e true_of.trees is tree (list_type t bid (suc n) e is (omega arith) (true_of.lists.heights.holds bid (suc n) (omega arith) at))

-- ---- the count

length_keys : {K X : Type 0} (es : List (K × X)) → length (keys_of es) ≡ length es
length_keys [] = refl
length_keys (e ∷ rest) = ap suc (length_keys rest)

pub expanded : (t : Table) (nodes : List NodeEntry) (k : SoundTrees) (count : ℕ) → IsKnownTrue t k → both.AreClosed t k.seen k.heights → both.AreReached t (roots_of nodes) k.seen k.heights → both.AreKnownEach t k.seen k.heights (map entry_of_node nodes) → IsCounted k → IsStrictlySortedBy nat_cmp (seen.tree_keys k.seen) → IsStrictlySortedBy nat_cmp (heights.list_keys k.heights) → count ≡ capped (seen.tree_expansions k.seen + heights.list_expansions k.heights) → AreExpanded t nodes count
expanded t nodes k count true_of closed reached known counted trees lists is =
    let xs = seen.tree_keys k.seen in
    let ys = heights.list_keys k.heights in (
      xs ++ ys,
      distinct_append xs ys (rising_distinct xs trees) (rising_distinct ys lists) (keys_apart t (roots_of nodes) k true_of reached),
      (λ key. (there key, back key)),
      omega (arith, is, counted.trees, counted.lists, length-append xs ys, length_keys k.heights.states.entries),
    )
  where
    there : (key : ℕ) → Contains (seen.tree_keys k.seen ++ heights.list_keys k.heights) key → IsReached t (roots_of nodes) key
    there key w =
        elim (Contains-append_cases (seen.tree_keys k.seen) (heights.list_keys k.heights) key w) [
          | inl tree ↦ reached.trees key (key_held k.seen key tree)
          | inr listed ↦ let state = key_state k.heights key listed in reached.lists key state.0 state.1
        ]

    back : (key : ℕ) → IsReached t (roots_of nodes) key → Contains (seen.tree_keys k.seen ++ heights.list_keys k.heights) key
    back key w =
        elim (reached_known t nodes k.seen k.heights w.0 w.1 true_of.trees closed known w.2 w.3) [
          | inl tree ↦ Contains-append_left (seen.tree_keys k.seen) (heights.list_keys k.heights) key (held_key k.seen key (ap (seen.holds_tree k.seen) w.4 ∙ (sym (has_held k.seen w.0) ∙ tree)))
          | inr high ↦ Contains-append_right (seen.tree_keys k.seen) (heights.list_keys k.heights) key (state_key k.heights key high.0 (ap (heights.state_at k.heights) w.4 ∙ high.2))
        ]

-- ---- nothing is known yet

pub closed_new : (t : Table) (k : SoundTrees) → IsNew k → both.AreClosed t k.seen k.heights
closed_new t k new = record {
  trees = λ bid e known internal next x names is. let bad : false ≡ true = sym (new.trees (bid_key bid)) ∙ (sym (has_held k.seen bid) ∙ known) in cc;
  lists = λ bid next e high names is. let bad : None ≡ Some high.0 = sym (new.lists (bid_key bid)) ∙ high.2 in cc;
}

pub reached_new : (t : Table) (from : List ℕ) (k : SoundTrees) → IsNew k → both.AreReached t from k.seen k.heights
reached_new t from k new = record {
  trees = λ key known. let bad : false ≡ true = sym (new.trees key) ∙ known in cc;
  lists = λ key state known. let bad : None ≡ Some state = sym (new.lists key) ∙ known in cc;
}

-- all nodes were gone through
pub all_expanded : (t : Table) (nodes : List NodeEntry) (old k : SoundTrees) (count : ℕ) → IsNew old → IsKnownTrue t k → AddsKnown t (both.AreLedEach t (map entry_of_node nodes)) old k → both.AreKnownEach t k.seen k.heights (map entry_of_node nodes) → IsCounted k → IsStrictlySortedBy nat_cmp (seen.tree_keys k.seen) → IsStrictlySortedBy nat_cmp (heights.list_keys k.heights) → count ≡ capped (seen.tree_expansions k.seen + heights.list_expansions k.heights) → AreExpanded t nodes count
all_expanded t nodes old k count new true_of adds known counted trees lists is =
    expanded t nodes k count true_of (adds.closed (closed_new t old new)) (adds.reached (roots_of nodes) (led_each t nodes) (reached_new t (roots_of nodes) old new)) known counted trees lists is

pub expanded_same : (t u : Table) (nodes others : List NodeEntry) (count : ℕ) → t ≡ u → nodes ≡ others → AreExpanded u others count → AreExpanded t nodes count
expanded_same t u nodes others count table entries is = rw (table, entries) is
