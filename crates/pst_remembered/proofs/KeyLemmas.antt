-- Sets of nodes.
use Rattle.std.proofs.Common.{◌≡◌, ℕ, zero, suc, ◌+◌, ◌<◌, [], ◌∷◌, length, arith, Bool, true, false, List, Result, Ok, Err, refl, sym, ap, ◌∙◌, ◌⊎◌, inl, inr}
use Rattle.std.specs.Prelude.{◌||◌, OnOk, OnErr}
use Rattle.std.specs.List.{Contains, list_any, slice_index_or}
use Rattle.std.specs.List.Sorted.{IsStrictlySortedBy}
use Rattle.std.specs.BTreeMap.{is_at}
use Rattle.std.specs.BTreeSet.{insert_key}
use Rattle.std.proofs.lemmas.Map.Views.{tells_apart, Contains-from_any}
use Rattle.std.proofs.lemmas.Cmp.{tied_itself, nat_cmp_total}
use Rattle.pst_block.specs.Block.{bid_key}
use Rattle.pst_fault.specs.declared.fault.Fault.{Fault}
use Rattle.pst_fault.proofs.GeneralLemmas.{or_true}
use Rattle.pst_ndb.specs.Roots.{Roots}
use Rattle.pst_ndb.specs.Alike.{Alike}
use Rattle.pst_remembered.specs.declared.keys.NodeSet.{NodeSet}
use Rattle.pst_remembered.specs.Keys.{Key, key, data_key, list_key, pair_cmp, key_cmp, with_alone, keys_in, holds, has}
use Rattle.pst_remembered.proofs.AloneLemmas.{alone_put, held_alone, held_other, other_put}
use Rattle.pst_remembered.proofs.InsertLemmas.{inserted_any, inserted_length}
use Rattle.pst_remembered.proofs.KeyOrderLemmas.{keys_exact}

-- ---- keys of nodes

pub alike_of_key : (n m : ℕ) (r s : Roots) → key n r ≡ key m s → (n ≡ m) × Alike r s
alike_of_key n m r s e = (ap (λ (k : Key). k.1) e, (ap (λ (k : Key). k.0.0) e, ap (λ (k : Key). k.0.1) e))

pub same_data : (n m : ℕ) (r s : Roots) → data_key n r ≡ data_key m s → (n ≡ m) × (bid_key r.bid_data ≡ bid_key s.bid_data)
same_data n m r s e = (ap (λ (k : Key). k.1) e, ap (λ (k : Key). k.0.0) e)

pub same_list : (r s : Roots) → list_key r ≡ list_key s → bid_key r.bid_sub ≡ bid_key s.bid_sub
same_list r s e = ap (λ (k : Key). k.0.1) e

pub has_same : (keys : NodeSet) (n : ℕ) (r s : Roots) → Alike r s → has keys n r ≡ true → has keys n s ≡ true
has_same keys n r s e is = rw (← e.0, ← e.1) is

-- ---- the keys of a set

itself : (q : Key) → is_at (key_cmp q) q ≡ true
itself q = rw (tied_itself nat_cmp_total q.0.0, tied_itself nat_cmp_total q.0.1, tied_itself nat_cmp_total q.1) refl

any_of : (q : Key) (ks : List Key) → Contains ks q → list_any (is_at (key_cmp q)) ks ≡ true
any_of q [] w = absurd (omega (arith, w.1))
any_of q (x ∷ rest) w = by_place w.0 w.1 w.2 (any_of q rest)
  where
    by_place : (k : ℕ) → k < length (x ∷ rest) → slice_index_or (x ∷ rest) k q ≡ q → (Contains rest q → list_any (is_at (key_cmp q)) rest ≡ true) → list_any (is_at (key_cmp q)) (x ∷ rest) ≡ true
    by_place zero lt is later = rw (is, itself q) refl
    by_place (suc k) lt is later = rw (later (k, omega arith, is)) (or_true (is_at (key_cmp q) x))

pub holds_listed : (keys : NodeSet) (q : Key) → Contains (keys_in keys) q → holds keys q ≡ true
unfolding holds keys_in
holds_listed keys q w = any_of q _ w

pub listed_holds : (keys : NodeSet) (q : Key) → holds keys q ≡ true → Contains (keys_in keys) q
unfolding holds keys_in
listed_holds keys q e = Contains-from_any (tells_apart keys_exact) q _ e

-- ---- which of the two lists a key is in

pub there_alone : (keys : NodeSet) (q : Key) → q.0.1 ≡ 0 → list_any (is_at (pair_cmp (q.0.0, q.1))) keys.alone ≡ true → true ≡ holds keys q
unfolding holds keys_in
there_alone keys q none is = sym (rw none (held_alone keys.alone keys.others q.0.0 q.1 ∙ ap (λ b. b || list_any (is_at (key_cmp ((q.0.0, 0), q.1))) keys.others) is))

pub not_alone : (keys : NodeSet) (q : Key) → q.0.1 ≡ 0 → list_any (is_at (pair_cmp (q.0.0, q.1))) keys.alone ≡ false → list_any (is_at (key_cmp q)) keys.others ≡ holds keys q
unfolding holds keys_in
not_alone keys q none is = sym (rw none (held_alone keys.alone keys.others q.0.0 q.1 ∙ ap (λ b. b || list_any (is_at (key_cmp ((q.0.0, 0), q.1))) keys.others) is))

pub never_alone : (keys : NodeSet) (q : Key) → 0 < q.0.1 → list_any (is_at (key_cmp q)) keys.others ≡ holds keys q
unfolding holds keys_in
never_alone keys q some = sym (held_other keys.alone keys.others q some)

-- ---- one more key

-- a key was inserted, or memory was refused and the set stayed as it was
abbrev pub IsInserted : Result (Unit {0}) Fault → NodeSet → Key → NodeSet → Type 0
IsInserted (Ok x) old k new = keys_in new ≡ insert_key key_cmp (keys_in old) k
IsInserted (Err f) old k new = keys_in new ≡ keys_in old

-- what is in it was there, or is the key
pub only_inserted : (result : Result (Unit {0}) Fault) (old new : NodeSet) (k : Key) → IsInserted result old k new → (q : Key) → holds new q ≡ true → (holds old q ≡ true) ⊎ (k ≡ q)
unfolding holds
only_inserted (Err f) old new k same q e = inl (rw (← same) e)
only_inserted (Ok x) old new k more q e = by_test (is_at (key_cmp q) k) refl (sym (inserted_any key_cmp keys_exact (is_at (key_cmp q)) (keys_in old) k) ∙ rw (← more) e)
  where
    by_test : (v : Bool) → is_at (key_cmp q) k ≡ v → (v || list_any (is_at (key_cmp q)) (keys_in old)) ≡ true → (list_any (is_at (key_cmp q)) (keys_in old) ≡ true) ⊎ (k ≡ q)
    by_test true here h = inr (sym (tells_apart keys_exact q k here))
    by_test false here h = inl h

-- what was in it is there
pub still_there : (result : Result (Unit {0}) Fault) (old new : NodeSet) (k : Key) → IsInserted result old k new → (q : Key) → holds old q ≡ true → holds new q ≡ true
unfolding holds
still_there (Err f) old new k same q e = rw same e
still_there (Ok x) old new k more q e = rw (more, inserted_any key_cmp keys_exact (is_at (key_cmp q)) (keys_in old) k, e) (or_true (is_at (key_cmp q) k))

-- the key is
pub inserted_there : (result : Result (Unit {0}) Fault) (old new : NodeSet) (k : Key) → IsInserted result old k new → OnOk result (holds new k ≡ true)
unfolding holds
inserted_there (Err f) old new k same = tt
inserted_there (Ok x) old new k more = rw (more, inserted_any key_cmp keys_exact (is_at (key_cmp k)) (keys_in old) k, itself k) refl

-- and one that was not there makes one more
pub one_more_key : (result : Result (Unit {0}) Fault) (old new : NodeSet) (k : Key) → IsInserted result old k new → holds old k ≡ false → OnOk result (length (keys_in new) ≡ length (keys_in old) + 1)
unfolding holds
one_more_key (Err f) old new k same absent = tt
one_more_key (Ok x) old new k more absent = rw more (inserted_length key_cmp (keys_in old) k absent)

-- ---- a key is inserted among those that it belongs to

pub alone_inserted : (result : Result (Unit {0}) Fault) (old new : NodeSet) (k : Key) → k.0.1 ≡ 0 → IsStrictlySortedBy key_cmp old.others → new.others ≡ old.others → OnOk result (new.alone ≡ insert_key pair_cmp old.alone (k.0.0, k.1)) → OnErr result (new.alone ≡ old.alone) → IsInserted result old k new
unfolding keys_in
alone_inserted (Err f) old new k none sorted others inserted same = rw (others, same) refl
alone_inserted (Ok u) old new k none sorted others inserted same =
    rw (others, inserted) (alone_put old.alone old.others (k.0.0, k.1) sorted ∙ ap (λ s. insert_key key_cmp (with_alone old.alone old.others) ((k.0.0, s), k.1)) (sym none))

pub other_inserted : (result : Result (Unit {0}) Fault) (old new : NodeSet) (k : Key) → IsStrictlySortedBy key_cmp old.others → new.alone ≡ old.alone → OnOk result (new.others ≡ insert_key key_cmp old.others k) → OnErr result (new.others ≡ old.others) → IsInserted result old k new
unfolding keys_in
other_inserted (Err f) old new k sorted alone inserted same = rw (alone, same) refl
other_inserted (Ok u) old new k sorted alone inserted same = rw (alone, inserted) (other_put old.alone old.others k sorted)
