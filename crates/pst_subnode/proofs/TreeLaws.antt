-- The grammar of subnodes, and their first fault, height and entries, say the same.
use Rattle.std.proofs.Common.{◌≡◌, ℕ, zero, suc, ◌+◌, ◌-◌, ◌≤◌, max, Bool, true, false, List, [], ◌∷◌, Some, None, refl, sym, ap, ◌∙◌, arith}
use Rattle.std.specs.List.{Contains}
use Rattle.pst_fault.specs.First.{◌then◌}
use Rattle.pst_fault.proofs.FirstLemmas.{then_none, none_then}
use Rattle.pst_fault.proofs.EachLemmas.{none_of}
use Rattle.pst_block.specs.Table.{Table, entry_of}
use Rattle.pst_datatree.specs.Bid.{is_no_block}
use Rattle.pst_datatree.specs.Data.{data_fault, data_spans}
use Rattle.pst_datatree.proofs.RelationLemmas.{data_law}
use Rattle.pst_subnode.specs.declared.sub.Sub.{Sub}
use Rattle.pst_subnode.specs.List.{subs_at, block_subs, subs_of, list_fault}
use Rattle.pst_subnode.specs.Tree.{most_among, entry_fault, entry_height, nesting, sub_fault, sub_height}
use Rattle.pst_fault.specs.Each.{first_of}
use Rattle.pst_subnode.specs.Relation.{NamesList, HasSubs, nothing, listed, HaveSubs, no_entries, entries}
use Rattle.pst_subnode.specs.Laws.{SubLaw, OneLaw, EntryLaw}
use Rattle.pst_subnode.proofs.ListLaws.{names_law}
use Rattle.pst_subnode.proofs.SubLemmas.{sub_fault_none, sub_fault_below, sub_fault_list, sub_height_none, sub_height_list, sub_height_suc}

-- what the definitions say of a block identifier, and of entries
pub record Agrees (t : Table) (limit bid height : ℕ) (subs : List Sub) : Type 0 where
  pub first : sub_fault t limit bid ≡ None
  pub height_is : height ≡ sub_height t limit bid
  pub subs_are : subs ≡ subs_of t bid

pub record Agree (t : Table) (limit : ℕ) (subs : List Sub) (most : ℕ) : Type 0 where
  pub first : first_of (entry_fault t (sub_fault t limit)) subs ≡ None
  pub most_is : most ≡ most_among (entry_height (sub_height t limit)) subs

pub no_subs : (t : Table) (bid : ℕ) → is_no_block bid ≡ true → subs_of t bid ≡ []
unfolding subs_of
no_subs t bid e = rw e refl

pub named_subs : (t : Table) (bid : ℕ) → is_no_block bid ≡ false → subs_of t bid ≡ subs_at (block_subs t) (entry_of t bid)
unfolding subs_of
named_subs t bid e = rw e refl

-- ---- from the grammar

agrees_none : (t : Table) (limit bid : ℕ) → is_no_block bid ≡ true → Agrees t limit bid 0 []
agrees_none t limit bid e = record { first = sub_fault_none t limit bid e; height_is = sym (sub_height_none t limit bid e); subs_are = sym (no_subs t bid e) }

agrees_list : (t : Table) (limit below bid most : ℕ) (subs : List Sub) → below + 1 ≡ limit → is_no_block bid ≡ false → NamesList t bid subs → Agree t below subs most → Agrees t limit bid (most + 1) subs
agrees_list t limit below bid most subs h e names agree =
    let p = (names_law t bid subs).0 names in
    let are : subs ≡ subs_of t bid = p.1 ∙ sym (named_subs t bid e) in
    record {
      first = sub_fault_list t limit below bid h e ∙ (then_none _ _ p.0 ∙ rw (← are) agree.first);
      height_is = ap (λ n. n + 1) (agree.most_is ∙ ap (most_among (entry_height (sub_height t below))) are) ∙ sym (sub_height_list t limit below bid h e);
      subs_are = are;
    }

agree_none : (t : Table) (limit : ℕ) → Agree t limit [] 0
unfolding first_of most_among
agree_none t limit = record { first = refl; most_is = refl }

agree_more : (t : Table) (limit height most : ℕ) (s : Sub) (rest subs : List Sub) → data_fault t s.bid_data ≡ None → Agrees t limit s.bid_sub height subs → Agree t limit rest most → Agree t limit (s ∷ rest) (max height most)
unfolding first_of most_among entry_fault entry_height
agree_more t limit height most s rest subs tree one others = record {
  first = then_none _ _ (then_none _ _ tree ∙ one.first) ∙ others.first;
  most_is = ap (λ h. max h most) one.height_is ∙ ap (max (sub_height t limit s.bid_sub)) others.most_is;
}

mutual
  pub has_agrees : (t : Table) (bid height : ℕ) (subs : List Sub) → HasSubs t bid height subs → (limit : ℕ) → height ≤ limit → Agrees t limit bid height subs
  has_agrees t bid height subs (nothing _ e) limit le = agrees_none t limit bid e
  has_agrees t bid height subs (listed _ _ most e names each) limit le =
      agrees_list t limit (limit - 1) bid most subs (omega arith) e names (have_agree t subs most each (limit - 1) (omega arith))

  pub have_agree : (t : Table) (subs : List Sub) (most : ℕ) → HaveSubs t subs most → (limit : ℕ) → most ≤ limit → Agree t limit subs most
  have_agree t subs most no_entries limit le = agree_none t limit
  have_agree t subs most (entries s rest spans list height others tree has each) limit le =
      agree_more t limit height others s rest list ((data_law t s.bid_data spans).0 tree).0 (has_agrees t s.bid_sub height list has limit (omega arith)) (have_agree t rest others each limit (omega arith))

-- ---- from the definitions

abbrev HasWithin : Table → ℕ → ℕ → Type 0
HasWithin t limit bid = HasSubs t bid (sub_height t limit bid) (subs_of t bid) × (sub_height t limit bid ≤ limit)

has_none : (t : Table) (limit bid : ℕ) → is_no_block bid ≡ true → HasWithin t limit bid
has_none t limit bid e = rw (sub_height_none t limit bid e, no_subs t bid e) (nothing bid e, omega arith)

have_within : (t : Table) (limit : ℕ) → ((b : ℕ) → sub_fault t limit b ≡ None → HasWithin t limit b) → (xs : List Sub) → first_of (entry_fault t (sub_fault t limit)) xs ≡ None → HaveSubs t xs (most_among (entry_height (sub_height t limit)) xs) × (most_among (entry_height (sub_height t limit)) xs ≤ limit)
unfolding first_of most_among entry_fault entry_height
have_within t limit has [] h = (no_entries, omega arith)
have_within t limit has (s ∷ rest) h =
    let p = none_then (data_fault t s.bid_data then sub_fault t limit s.bid_sub) _ h in
    let q = none_then (data_fault t s.bid_data) (sub_fault t limit s.bid_sub) p.0 in
    let one = has s.bid_sub q.1 in
    let others = have_within t limit has rest p.1 in
    (entries s rest (data_spans t s.bid_data) (subs_of t s.bid_sub) _ _ ((data_law t s.bid_data (data_spans t s.bid_data)).1 (q.0, refl)) one.0 others.0, omega (arith, one.1, others.1))

has_list : (t : Table) (limit bid : ℕ) → is_no_block bid ≡ false → ((b : ℕ) → sub_fault t limit b ≡ None → HasWithin t limit b) → sub_fault t (suc limit) bid ≡ None → HasWithin t (suc limit) bid
has_list t limit bid e has h =
    let p = none_then (list_fault t bid) (first_of (entry_fault t (sub_fault t limit)) (subs_of t bid)) (sym (sub_fault_list t (suc limit) limit bid (omega arith) e) ∙ h) in
    let each = have_within t limit has (subs_of t bid) p.1 in
    rw (sub_height_suc t limit bid e) (listed bid (subs_of t bid) _ e ((names_law t bid (subs_of t bid)).1 (p.0, named_subs t bid e)) each.0, omega (arith, each.1))

pub has_within : (t : Table) (limit bid : ℕ) → sub_fault t limit bid ≡ None → HasWithin t limit bid
has_within t zero bid h = by_test (is_no_block bid) refl
  where
    by_test : (v : Bool) → is_no_block bid ≡ v → HasWithin t 0 bid
    by_test true e = has_none t 0 bid e
    by_test false e = let bad : Some nesting ≡ None = sym (sub_fault_below t 0 bid refl e) ∙ h in cc
has_within t (suc limit) bid h = by_test (is_no_block bid) refl (λ b. has_within t limit b)
  where
    by_test : (v : Bool) → is_no_block bid ≡ v → ((b : ℕ) → sub_fault t limit b ≡ None → HasWithin t limit b) → HasWithin t (suc limit) bid
    by_test true e has = has_none t (suc limit) bid e
    by_test false e has = has_list t limit bid e has h

-- ---- laws

pub sub_law : SubLaw
sub_law t limit bid height subs = (
  (λ w. let a = has_agrees t bid height subs w.0 limit w.1 in (a.first, a.height_is, a.subs_are)),
  (λ w. rw (w.1, w.2) (has_within t limit bid w.0)),
)

pub one_law : OneLaw
one_law t bid height other subs others a b =
    let p = has_agrees t bid height subs a (max height other) (omega arith) in
    let q = has_agrees t bid other others b (max height other) (omega arith) in
    (p.height_is ∙ sym q.height_is, p.subs_are ∙ sym q.subs_are)

pub entry_law : EntryLaw
unfolding entry_fault
entry_law t limit bid s h w = by_test (is_no_block bid) refl
  where
    by_test : (v : Bool) → is_no_block bid ≡ v → (data_fault t s.bid_data ≡ None) × (sub_fault t limit s.bid_sub ≡ None)
    by_test true e = let bad : Contains [] s = (rw (no_subs t bid e) at w) in absurd (omega (arith, bad.1))
    by_test false e =
        let p = none_then (list_fault t bid) (first_of (entry_fault t (sub_fault t limit)) (subs_of t bid)) (sym (sub_fault_list t (suc limit) limit bid (omega arith) e) ∙ h) in
        none_then (data_fault t s.bid_data) (sub_fault t limit s.bid_sub) (none_of (entry_fault t (sub_fault t limit)) (subs_of t bid) s p.1 w)
