-- What a walk of data trees adds to what is known.
use Rattle.std.proofs.Common.{◌≡◌, ℕ, ◌+◌, ◌<◌, Bool, true, false, List, [], ◌∷◌, Option, Some, None, refl, sym, ap, ◌∙◌, arith, ◌⊎◌, inl, inr}
use Rattle.std.specs.Prelude.{cond, ◌/◌, ◌==◌, if◌then◌else◌}
use Rattle.std.proofs.lemmas.Bool.{eqb-true, cases_lt}
use Rattle.std.proofs.lemmas.Bool.Decides.{nat_tests}
use Rattle.pst_fault.specs.declared.fault.Fault.{Fault}
use Rattle.pst_fault.specs.First.{holds_or}
use Rattle.pst_fault.proofs.FirstLemmas.{none_then, none_below, holds_or_none}
use Rattle.pst_fault.proofs.EachLemmas.{there_is}
use Rattle.pst_page.specs.Entry.{key_of}
use Rattle.pst_page.specs.declared.entry.BlockEntry.{BlockEntry}
use Rattle.pst_btree.specs.Entries.{block_key, block_with, first_with}
use Rattle.pst_block.specs.Block.{bid_key}
use Rattle.pst_block.specs.Table.{Table, entry_of, body_of}
use Rattle.pst_datatree.specs.declared.seen.Seen.{Seen}
use Rattle.pst_datatree.specs.Bid.{is_internal, is_no_block}
use Rattle.pst_datatree.specs.List.{btype_in, count_in, bid_in, is_block_list}
use Rattle.pst_datatree.specs.Names.{IsInternal, IsKeyOf, IsOfFirst, IsChildKey, IsUnder, IsInTree}
use Rattle.pst_datatree.specs.Data.{bad_tree, block_missing, data_leaf_fault, xblock_fault, xxblock_fault}
use Rattle.pst_datatree.specs.Seen.{has_tree, holds_tree, NamesKnown, IsSoundTree, IsKnownTree, AddsTrees}
use Rattle.pst_datatree.proofs.KeyLemmas.{entry_same}

-- ---- bit 0 of an identifier says nothing

pub internal_same : (a b : ℕ) → bid_key a ≡ bid_key b → is_internal a ≡ is_internal b
unfolding key_of is_internal
internal_same a b e = let half : a / 2 ≡ b / 2 = omega arith in rw half refl

pub is_internal_same : (t : Table) (a b : ℕ) (e : BlockEntry) → bid_key a ≡ bid_key b → IsInternal t b e → IsInternal t a e
is_internal_same t a b e same is = (entry_same t a b same ∙ is.0, internal_same a b same ∙ is.1)

pub has_same : (s : Seen) (a b : ℕ) → bid_key a ≡ bid_key b → has_tree s a ≡ has_tree s b
unfolding has_tree
has_same s a b same = rw same refl

-- what is found under a key has it
found_key : (key : ℕ) (entries : List BlockEntry) (e : BlockEntry) → block_with key entries ≡ Some e → block_key e ≡ key
unfolding first_with
found_key key [] e is = cc
found_key key (x ∷ rest) e is = by_test (block_key x == key) refl is (found_key key rest e)
  where
    by_test : (v : Bool) → (block_key x == key) ≡ v → (if v then Some x else block_with key rest) ≡ Some e → (block_with key rest ≡ Some e → block_key e ≡ key) → block_key e ≡ key
    by_test true here h later = let one : x ≡ e = cc in rw (← one) (eqb-true _ _ here)
    by_test false there h later = later h

pub entry_key : (t : Table) (bid : ℕ) (e : BlockEntry) → entry_of t bid ≡ Some e → bid_key e.bid ≡ bid_key bid
unfolding entry_of
entry_key t bid e is = found_key (bid_key bid) t.entries e is

-- ---- one after another

pub adds_none : (t : Table) (IsNew : ℕ → Type 0) (s : Seen) → AddsTrees t IsNew s s
adds_none t IsNew s = record { stays = λ key was. was; only = λ key is. inl is; closed = λ was. was }

pub adds_same : (t : Table) (IsNew : ℕ → Type 0) (old new : Seen) → ((key : ℕ) → holds_tree new key ≡ holds_tree old key) → AddsTrees t IsNew old new
unfolding has_tree
adds_same t IsNew old new same = record {
  stays = λ key was. same key ∙ was;
  only = λ key is. inl (sym (same key) ∙ is);
  closed = λ was bid e known internal next x names also. same (bid_key next) ∙ was bid e (sym (same (bid_key bid)) ∙ known) internal next x names also;
}

pub adds_then : (t : Table) (IsNew : ℕ → Type 0) (a b c : Seen) → AddsTrees t IsNew a b → AddsTrees t IsNew b c → AddsTrees t IsNew a c
adds_then t IsNew a b c first second = record {
  stays = λ key was. second.stays key (first.stays key was);
  only = λ key is. elim (second.only key is) [ inl was ↦ first.only key was | inr new ↦ inr new ];
  closed = λ was. second.closed (first.closed was);
}

pub adds_of : (t : Table) (IsNew IsAlso : ℕ → Type 0) (a b : Seen) → ((key : ℕ) → IsNew key → IsAlso key) → AddsTrees t IsNew a b → AddsTrees t IsAlso a b
adds_of t IsNew IsAlso a b of adds = record {
  stays = adds.stays;
  only = λ key is. elim (adds.only key is) [ inl was ↦ inl was | inr new ↦ inr (of key new) ];
  closed = adds.closed;
}

-- ---- one block is put in, with all that it names

pub adds_put : (t : Table) (IsNew : ℕ → Type 0) (old new : Seen) (e : BlockEntry) → entry_of t e.bid ≡ Some e → ((key : ℕ) → holds_tree old key ≡ true → holds_tree new key ≡ true) → ((key : ℕ) → holds_tree new key ≡ true → (holds_tree old key ≡ true) ⊎ (bid_key e.bid ≡ key)) → NamesKnown t old e → ((key : ℕ) → bid_key e.bid ≡ key → IsNew key) → AddsTrees t IsNew old new
unfolding has_tree
adds_put t IsNew old new e listed stays only names is_new = record {
  stays = stays;
  only = λ key is. elim (only key is) [ inl was ↦ inl was | inr same ↦ inr (is_new key same) ];
  closed = λ was bid x known internal next y named also.
      elim (only (bid_key bid) known) [
        | inl had ↦ stays (bid_key next) (was bid x had internal next y named also)
        | inr same ↦
            let both : Some e ≡ Some x = sym listed ∙ entry_same t e.bid bid same ∙ internal.0 in
            let one : e ≡ x = cc in
            stays (bid_key next) (names next y (rw one named) also)
      ];
}

-- ---- an XBLOCK names no internal block

pub leaf_external : (t : Table) (e : BlockEntry) (i : ℕ) → data_leaf_fault t e i ≡ None → is_internal (bid_in (body_of t e) i) ≡ false
unfolding data_leaf_fault
leaf_external t e i none =
    let bid = bid_in (body_of t e) i in
    let w = there_is (block_missing bid) (λ x. if is_internal bid then Some (bad_tree e) else None) (entry_of t bid) none in
    from_test (is_internal bid) (bad_tree e) w.2
  where
    from_test : (b : Bool) (f : Fault) → cond b (Some f) None ≡ None → b ≡ false
    from_test true f h = cc
    from_test false f h = refl

pub xblock_names : (t : Table) (s : Seen) (e : BlockEntry) → xblock_fault t e ≡ None → NamesKnown t s e
unfolding xblock_fault
xblock_names t s e none next x names internal =
    let p = none_then (holds_or (is_block_list 1 (body_of t e)) (bad_tree e)) _ none in
    let leaves = (none_then _ _ p.1).0 in
    let i = names.1.0 in
    let bad : true ≡ false = sym internal.1 ∙ (ap is_internal names.1.2 ∙ leaf_external t e i (none_below (data_leaf_fault t e) (count_in (body_of t e)) i leaves names.1.1)) in
    cc

pub list_type : (level : ℕ) (body : List ℕ) → is_block_list level body ≡ true → btype_in body ≡ 1
unfolding is_block_list
list_type level body h = grind (arith, nat_tests)

-- ---- the block of an identifier, by its entry

pub key_of_named : (t : Table) (bid named : ℕ) (e : BlockEntry) (r : Option BlockEntry) → named ≡ bid → r ≡ entry_of t named → r ≡ Some e → is_internal named ≡ true → (key : ℕ) → bid_key e.bid ≡ key → IsKeyOf t bid key
key_of_named t bid named e r same is there internal key own =
    let found : entry_of t bid ≡ Some e = ap (entry_of t) (sym same) ∙ (sym is ∙ there) in
    (e, (found, ap is_internal (sym same) ∙ internal), sym own ∙ entry_key t bid e found)

pub has_named : (t : Table) (s : Seen) (bid named : ℕ) (e : BlockEntry) (r : Option BlockEntry) → named ≡ bid → r ≡ entry_of t named → r ≡ Some e → has_tree s e.bid ≡ has_tree s bid
has_named t s bid named e r same is there = has_same s e.bid bid (entry_key t bid e (ap (entry_of t) (sym same) ∙ (sym is ∙ there)))

pub tree_of_named : (t : Table) (bid : ℕ) (e : BlockEntry) → entry_of t bid ≡ Some e → is_internal e.bid ≡ true → (key : ℕ) → IsUnder t e key → IsInTree t bid key
tree_of_named t bid e there internal key under = (e, (there, sym (internal_same e.bid bid (entry_key t bid e there)) ∙ internal), under)

pub known_named : (t : Table) (s : Seen) (bid : ℕ) (e : BlockEntry) → entry_of t bid ≡ Some e → (is_internal e.bid ≡ true → has_tree s e.bid ≡ true) → IsKnownTree t s bid
known_named t s bid e there known x internal =
    let key = entry_key t bid e there in
    sym (has_same s e.bid bid key) ∙ known (internal_same e.bid bid key ∙ internal.1)

-- an identifier that names no block is no internal block's
pub none_internal : (bid : ℕ) → is_no_block bid ≡ true → is_internal bid ≡ true → false ≡ true
unfolding is_no_block is_internal
none_internal bid none internal = grind (arith, nat_tests)

-- ---- the XBLOCKs of an XXBLOCK, one by one

pub adds_next : (t : Table) (holder : BlockEntry) (n i : ℕ) (a b c : Seen) → i < n → AddsTrees t (IsOfFirst t holder n) a b → AddsTrees t (IsKeyOf t (bid_in (body_of t holder) i)) b c → AddsTrees t (IsOfFirst t holder n) a c
adds_next t holder n i a b c lt so_far one = adds_then t _ a b c so_far (adds_of t _ (IsOfFirst t holder n) b c (λ key is. (i, lt, is)) one)

pub there_next : (t : Table) (holder : BlockEntry) (IsNew : ℕ → Type 0) (i : ℕ) (b c : Seen) → ((j : ℕ) → j < i → has_tree b (bid_in (body_of t holder) j) ≡ true) → AddsTrees t IsNew b c → has_tree c (bid_in (body_of t holder) i) ≡ true → (j : ℕ) → j < i + 1 → has_tree c (bid_in (body_of t holder) j) ≡ true
unfolding has_tree
there_next t holder IsNew i b c before adds this j lt =
    elim (cases_lt j i) [
      | inl less ↦ adds.stays (bid_key (bid_in (body_of t holder) j)) (before j less)
      | inr least ↦ let same : j ≡ i = omega arith in rw same this
    ]

-- ---- an XXBLOCK

pub adds_children : (t : Table) (e : BlockEntry) (n : ℕ) (body : List ℕ) (a b c : Seen) → body ≡ body_of t e → is_block_list 2 body ≡ true → n ≡ count_in body → ((key : ℕ) → holds_tree b key ≡ holds_tree a key) → AddsTrees t (IsOfFirst t e n) b c → AddsTrees t (IsChildKey t e) a c
adds_children t e n body a b c is listed count same adds =
    adds_then t _ a b c (adds_same t _ a b same)
    (adds_of t (IsOfFirst t e n) _ b c (λ key w. (bid_in (body_of t e) w.0, (list_type 2 (body_of t e) (rw is at listed), (w.0, omega (arith, w.1, count ∙ ap count_in is), refl)), w.2)) adds)

pub adds_xxblock : (t : Table) (a b c : Seen) (e : BlockEntry) → entry_of t e.bid ≡ Some e → ((key : ℕ) → holds_tree b key ≡ true → holds_tree c key ≡ true) → ((key : ℕ) → holds_tree c key ≡ true → (holds_tree b key ≡ true) ⊎ (bid_key e.bid ≡ key)) → NamesKnown t b e → AddsTrees t (IsChildKey t e) a b → AddsTrees t (IsUnder t e) a c
adds_xxblock t a b c e listed stays only names adds =
    adds_then t (IsUnder t e) a b c (adds_of t _ (IsUnder t e) a b (λ key below. inr below) adds) (adds_put t (IsUnder t e) b c e listed stays only names (λ key own. inl own))

-- ---- for those above

pub has_stays : (a b : Seen) (bid : ℕ) → ((key : ℕ) → holds_tree a key ≡ true → holds_tree b key ≡ true) → has_tree a bid ≡ true → has_tree b bid ≡ true
unfolding has_tree
has_stays a b bid stays known = stays (bid_key bid) known

-- a known block is that of an XBLOCK or XXBLOCK
pub tree_type : (t : Table) (e : BlockEntry) → IsSoundTree t e → btype_in (body_of t e) ≡ 1
unfolding xblock_fault xxblock_fault
tree_type t e sound =
    elim sound [
      | inl one ↦ list_type 1 (body_of t e) (holds_or_none _ _ (none_then (holds_or (is_block_list 1 (body_of t e)) (bad_tree e)) _ one).0)
      | inr two ↦ list_type 2 (body_of t e) (holds_or_none _ _ (none_then (holds_or (is_block_list 2 (body_of t e)) (bad_tree e)) _ two).0)
    ]
