-- What the steps of the walk of lists leave, one after another.
use Rattle.std.proofs.Common.{◌≡◌, ℕ, ◌<◌, ◌≤◌, Bool, true, false, List, Some, None, arith, sym, ◌∙◌}
use Rattle.std.specs.Prelude.{cond}
use Rattle.std.specs.List.{Contains}
use Rattle.std.specs.Ordering.{nat_cmp, eq_by_cmp}
use Rattle.pst_page.specs.declared.entry.BlockEntry.{BlockEntry}
use Rattle.pst_block.specs.Block.{bid_key}
use Rattle.pst_block.specs.Table.{Table, body_of}
use Rattle.pst_datatree.specs.declared.seen.Seen.{Seen}
use Rattle.pst_datatree.specs.Names.{IsInternal, IsInTree}
use Rattle.pst_datatree.specs.Seen.{tree_expansions, IsSeenTrue, KeepsCount, AddsTrees}
use Rattle.pst_subnode.specs.declared.sub.Sub.{Sub}
use Rattle.pst_subnode.specs.declared.heights.Heights.{Heights}
use Rattle.pst_datatree.specs.List.{count_in}
use Rattle.pst_subnode.specs.Body.{leaf_bid_in}
use Rattle.pst_subnode.specs.List.{subs_of}
use Rattle.pst_subnode.specs.Tree.{sub_fault, sub_height}
use Rattle.pst_subnode.specs.Heights.{list_expansions, state_of, AreTrue, AreAlike, AreHeightsCounted, NoNewMarks}
use Rattle.pst_subnode.specs.Marks.{IsSlblockList, IsSiList}
use Rattle.pst_subnode.specs.Reach.{NamesNext, Leads}
use Rattle.pst_subnode.specs.Known.{IsKnownBlock, AreLedTo, AreLedEach, AreLedBelow}
use Rattle.pst_subnode.specs.Walk.{IsWalked, KeepsCounts}
use Rattle.pst_subnode.specs.Stack.{IsMarking}
use Rattle.pst_subnode.proofs.MarkLemmas.{IsPut, IsSame}
use Rattle.pst_subnode.proofs.StateLemmas.{alike_same, forget_true, settle_true}
use Rattle.pst_subnode.proofs.AddLemmas.{adds_none, adds_then, adds_of, adds_alike, adds_first, forgets, settles}
use Rattle.pst_subnode.proofs.PartLemmas.{led_entries, led_leaves}

-- ---- a step

pub walked_none : (t : Table) (AreLed : List ℕ → Type 0) (s : Seen) (h : Heights) → IsSeenTrue t s → AreTrue t h → IsWalked t AreLed s h s h
walked_none t AreLed s h trees lists = record {
  trees = trees;
  lists = lists;
  marks = λ q marked. marked;
  adds = adds_none t AreLed s h;
  grows = record { trees = omega arith; lists = omega arith };
}

pub walked_then : (t : Table) (AreLed : List ℕ → Type 0) (s : Seen) (h : Heights) (s' : Seen) (h' : Heights) (s'' : Seen) (h'' : Heights) → IsWalked t AreLed s h s' h' → IsWalked t AreLed s' h' s'' h'' → IsWalked t AreLed s h s'' h''
walked_then t AreLed s h s' h' s'' h'' first second = record {
  trees = second.trees;
  lists = second.lists;
  marks = λ q marked. first.marks q (second.marks q marked);
  adds = adds_then t AreLed s h s' h' s'' h'' first.adds second.adds;
  grows = record { trees = omega (arith, first.grows.trees, second.grows.trees); lists = omega (arith, first.grows.lists, second.grows.lists) };
}

pub walked_of : (t : Table) (AreLed AreAlso : List ℕ → Type 0) (s : Seen) (h : Heights) (s' : Seen) (h' : Heights) → ((from : List ℕ) → AreAlso from → AreLed from) → IsWalked t AreLed s h s' h' → IsWalked t AreAlso s h s' h'
walked_of t AreLed AreAlso s h s' h' of walked = record {
  trees = walked.trees;
  lists = walked.lists;
  marks = walked.marks;
  adds = adds_of t AreLed AreAlso s h s' h' of walked.adds;
  grows = walked.grows;
}

-- ---- an entry: its data, and then its own list

pub walked_data : (t : Table) (sub : Sub) (s s' : Seen) (h : Heights) → AreTrue t h → IsSeenTrue t s' → AddsTrees t (IsInTree t sub.bid_data) s s' → tree_expansions s ≤ tree_expansions s' → IsWalked t (λ from. AreLedTo t from sub) s h s' h
walked_data t sub s s' h lists trees adds grows = record {
  trees = trees;
  lists = lists;
  marks = λ q marked. marked;
  adds = adds_first t sub s s' h adds;
  grows = record { trees = grows; lists = omega arith };
}

pub walked_both : (t : Table) (sub : Sub) (s : Seen) (h : Heights) (s' s'' : Seen) (h'' : Heights) → IsWalked t (λ from. AreLedTo t from sub) s h s' h → IsWalked t (λ from. Leads t from sub.bid_sub) s' h s'' h'' → IsWalked t (λ from. AreLedTo t from sub) s h s'' h''
walked_both t sub s h s' s'' h'' first second = walked_then t _ s h s' h s'' h'' first (walked_of t _ _ s' h s'' h'' (λ from led. led.1) second)

-- ---- a list by what it names, and the loops over that

pub walked_list : (t : Table) (bid : ℕ) (xs : List Sub) (s : Seen) (h : Heights) (s' : Seen) (h' : Heights) → IsSlblockList t bid → xs ≡ subs_of t bid → IsWalked t (AreLedEach t xs) s h s' h' → IsWalked t (λ from. Leads t from bid) s h s' h'
walked_list t bid xs s h s' h' is are walked = walked_of t (AreLedEach t xs) (λ from. Leads t from bid) s h s' h' (led_entries t bid xs is.is_list is.rank are) walked

pub walked_leaves : (t : Table) (bid : ℕ) (e : BlockEntry) (n : ℕ) (s : Seen) (h : Heights) (s' : Seen) (h' : Heights) → IsSiList t bid e → n ≡ count_in (body_of t e) → IsWalked t (AreLedBelow t e n) s h s' h' → IsWalked t (λ from. Leads t from bid) s h s' h'
walked_leaves t bid e n s h s' h' is count walked = walked_of t (AreLedBelow t e n) (λ from. Leads t from bid) s h s' h' (led_leaves t bid e n is count) walked

pub walked_entry : (t : Table) (xs : List Sub) (sub : Sub) (s : Seen) (h : Heights) (s' : Seen) (h' : Heights) (s'' : Seen) (h'' : Heights) → Contains xs sub → IsWalked t (AreLedEach t xs) s h s' h' → IsWalked t (λ from. AreLedTo t from sub) s' h' s'' h'' → IsWalked t (AreLedEach t xs) s h s'' h''
walked_entry t xs sub s h s' h' s'' h'' w so_far one = walked_then t (AreLedEach t xs) s h s' h' s'' h'' so_far (walked_of t (λ from. AreLedTo t from sub) (AreLedEach t xs) s' h' s'' h'' (λ from led. led sub w) one)

pub walked_leaf : (t : Table) (e : BlockEntry) (n i : ℕ) (s : Seen) (h : Heights) (s' : Seen) (h' : Heights) (s'' : Seen) (h'' : Heights) → i < n → IsWalked t (AreLedBelow t e n) s h s' h' → IsWalked t (λ from. Leads t from (leaf_bid_in (body_of t e) i)) s' h' s'' h'' → IsWalked t (AreLedBelow t e n) s h s'' h''
walked_leaf t e n i s h s' h' s'' h'' lt so_far one = walked_then t (AreLedBelow t e n) s h s' h' s'' h'' so_far (walked_of t _ (AreLedBelow t e n) s' h' s'' h'' (λ from led. led i lt) one)

-- ---- a list is marked, and then it is forgotten or gets its height

pub walked_same : (t : Table) (AreLed : List ℕ → Type 0) (s : Seen) (h h' : Heights) → IsSeenTrue t s → AreTrue t h' → IsSame h h' → list_expansions h ≤ list_expansions h' → IsWalked t AreLed s h s h'
walked_same t AreLed s h h' trees lists same grows = record {
  trees = trees;
  lists = lists;
  marks = λ q marked. sym (same (bid_key q)) ∙ marked;
  adds = adds_alike t AreLed s h h' same;
  grows = record { trees = omega arith; lists = grows };
}

-- after the check of a list's own blocks, which changes no height and no mark
pub walked_alike : (t : Table) (AreLed : List ℕ → Type 0) (s : Seen) (h h' : Heights) → IsSeenTrue t s → AreTrue t h' → AreAlike h h' → IsWalked t AreLed s h s h'
walked_alike t AreLed s h h' trees lists alike = walked_same t AreLed s h h' trees lists (alike_same h h' alike) (omega (arith, alike.count))

pub walked_behind : (t : Table) (AreLed : List ℕ → Type 0) (s : Seen) (h h' : Heights) (s'' : Seen) (h'' : Heights) → IsSeenTrue t s → AreTrue t h' → AreAlike h h' → IsWalked t AreLed s h' s'' h'' → IsWalked t AreLed s h s'' h''
walked_behind t AreLed s h h' s'' h'' trees lists alike walked = walked_then t AreLed s h s h' s'' h'' (walked_alike t AreLed s h h' trees lists alike) walked

forget_marks : (old begun mid new : Heights) (bid : ℕ) → IsPut old begun bid (Some 0) → NoNewMarks begun mid → IsPut mid new bid None → NoNewMarks old new
forget_marks old begun mid new bid first marks last q marked = by_test (eq_by_cmp nat_cmp (bid_key bid) (bid_key q)) (last (bid_key q)) (first (bid_key q))
  where
    by_test : (v : Bool) → state_of new q ≡ cond v None (state_of mid q) → state_of begun q ≡ cond v (Some 0) (state_of old q) → state_of old q ≡ Some 0
    by_test true is was = let bad : Some 0 ≡ None = sym marked ∙ is in cc
    by_test false is was = sym was ∙ marks q (sym is ∙ marked)

settle_marks : (old begun mid new : Heights) (bid height : ℕ) → 0 < height → IsPut old begun bid (Some 0) → NoNewMarks begun mid → IsPut mid new bid (Some height) → NoNewMarks old new
settle_marks old begun mid new bid height more first marks last q marked = by_test (eq_by_cmp nat_cmp (bid_key bid) (bid_key q)) (last (bid_key q)) (first (bid_key q))
  where
    by_test : (v : Bool) → state_of new q ≡ cond v (Some height) (state_of mid q) → state_of begun q ≡ cond v (Some 0) (state_of old q) → state_of old q ≡ Some 0
    by_test true is was = let same : Some 0 ≡ Some height = sym marked ∙ is in let bad : 0 ≡ height = cc in absurd (omega (arith, bad))
    by_test false is was = sym was ∙ marks q (sym is ∙ marked)

pub walked_forget : (t : Table) (bid : ℕ) (s s' : Seen) (h begun mid new : Heights) → IsMarking t bid h begun → IsWalked t (λ from. Leads t from bid) s begun s' mid → IsPut mid new bid None → new.ranges ≡ mid.ranges → list_expansions mid ≤ list_expansions new → IsWalked t (λ from. Leads t from bid) s h s' new
walked_forget t bid s s' h begun mid new is walked last ranges grows = record {
  trees = walked.trees;
  lists = forget_true t mid new bid last ranges walked.lists;
  marks = forget_marks h begun mid new bid is.put walked.marks last;
  adds = forgets t bid s s' h begun mid new is.list is.fresh is.put walked.adds last;
  grows = record { trees = walked.grows.trees; lists = omega (arith, is.grows, walked.grows.lists, grows) };
}

pub walked_settle : (t : Table) (bid limit height : ℕ) (s s' : Seen) (h begun mid new : Heights) → 0 < height → IsMarking t bid h begun → IsWalked t (λ from. Leads t from bid) s begun s' mid → (sub_fault t limit bid ≡ None) × (height ≡ sub_height t limit bid) → ((next : ℕ) (x : BlockEntry) → NamesNext t bid next → IsInternal t next x → IsKnownBlock s' mid next) → IsPut mid new bid (Some height) → new.ranges ≡ mid.ranges → list_expansions mid ≤ list_expansions new → IsWalked t (λ from. Leads t from bid) s h s' new
walked_settle t bid limit height s s' h begun mid new more is walked tells names_known last ranges grows = record {
  trees = walked.trees;
  lists = settle_true t mid new bid limit height is.list tells.0 (sym tells.1) last ranges walked.lists;
  marks = settle_marks h begun mid new bid height more is.put walked.marks last;
  adds = settles t bid height s s' h begun mid new more is.list is.fresh is.put walked.adds last names_known;
  grows = record { trees = walked.grows.trees; lists = omega (arith, is.grows, walked.grows.lists, grows) };
}

-- ---- what is counted

pub counts_none : (s : Seen) (h : Heights) → KeepsCounts s h s h
counts_none s h = record { trees = λ k is. is; lists = λ is. is }

pub counts_then : (s : Seen) (h : Heights) (s' : Seen) (h' : Heights) (s'' : Seen) (h'' : Heights) → KeepsCounts s h s' h' → KeepsCounts s' h' s'' h'' → KeepsCounts s h s'' h''
counts_then s h s' h' s'' h'' first second = record { trees = λ k is. second.trees k (first.trees k is); lists = λ is. second.lists (first.lists is) }

pub counts_data : (s s' s'' : Seen) (h h'' : Heights) → KeepsCount s s' → KeepsCounts s' h s'' h'' → KeepsCounts s h s'' h''
counts_data s s' s'' h h'' first second = record { trees = λ k is. second.trees k (first k is); lists = second.lists }

pub counts_behind : (s : Seen) (h h' : Heights) (s'' : Seen) (h'' : Heights) → AreAlike h h' → KeepsCounts s h' s'' h'' → KeepsCounts s h s'' h''
counts_behind s h h' s'' h'' alike counts = record { trees = counts.trees; lists = λ is. counts.lists (still is) }
  where
    still : AreHeightsCounted h → AreHeightsCounted h'
    still is = rw (alike.count, alike.states) is
