-- What a walk adds to what is known.
use Rattle.std.proofs.Common.{◌≡◌, ℕ, zero, suc, ◌<◌, Bool, true, false, List, ◌∷◌, length, Option, Some, None, sym, ap, ◌∙◌, arith, ◌⊎◌, inl, inr}
use Rattle.std.specs.Prelude.{cond, slice_index_or}
use Rattle.std.specs.Ordering.{nat_cmp, eq_by_cmp}
use Rattle.std.proofs.lemmas.Bool.Decides.{nat_tests}
use Rattle.std.specs.List.{Contains}
use Rattle.pst_page.specs.declared.entry.BlockEntry.{BlockEntry}
use Rattle.pst_block.specs.Block.{bid_key}
use Rattle.pst_block.specs.Table.{Table}
use Rattle.pst_datatree.specs.declared.seen.Seen.{Seen}
use Rattle.pst_datatree.specs.Names.{IsInternal, IsInTree}
use Rattle.pst_datatree.specs.Seen as trees
use Rattle.pst_datatree.proofs.AddLemmas.{has_stays}
use Rattle.pst_subnode.specs.declared.sub.Sub.{Sub}
use Rattle.pst_subnode.specs.declared.heights.Heights.{Heights}
use Rattle.pst_subnode.specs.List.{list_fault}
use Rattle.pst_subnode.specs.Heights.{state_at, state_of}
use Rattle.pst_subnode.specs.Reach.{NamesNext, Leads}
use Rattle.pst_subnode.specs.Known.{HasKnownHeight, IsKnownBlock, Adds, IsKnownList, IsKnownEntry, AreLedTo}
use Rattle.pst_subnode.proofs.MarkLemmas.{IsPut, IsSame, put_at, put_cases}
use Rattle.pst_subnode.proofs.ReachLemmas.{names_same, tree_reached, list_block}

-- what is in a list is its first or one behind
pub contains_cases : {X : Type 0} (x : X) (rest : List X) (y : X) → Contains (x ∷ rest) y → (x ≡ y) ⊎ Contains rest y
contains_cases x rest y w = by_place w.0 w.1 w.2
  where
    by_place : (k : ℕ) → k < length (x ∷ rest) → slice_index_or (x ∷ rest) k y ≡ y → (x ≡ y) ⊎ Contains rest y
    by_place zero lt is = inl is
    by_place (suc k) lt is = inr (k, omega arith, is)

-- ---- one after another

pub adds_none : (t : Table) (AreLed : List ℕ → Type 0) (s : Seen) (h : Heights) → Adds t AreLed s h s h
adds_none t AreLed s h = record { trees = λ key was. was; lists = λ key state was. was; closed = λ was. was; reached = λ from led was. was }

pub adds_then : (t : Table) (AreLed : List ℕ → Type 0) (s : Seen) (h : Heights) (s' : Seen) (h' : Heights) (s'' : Seen) (h'' : Heights) → Adds t AreLed s h s' h' → Adds t AreLed s' h' s'' h'' → Adds t AreLed s h s'' h''
adds_then t AreLed s h s' h' s'' h'' first second = record {
  trees = λ key was. second.trees key (first.trees key was);
  lists = λ key state was. second.lists key state (first.lists key state was);
  closed = λ was. second.closed (first.closed was);
  reached = λ from led was. second.reached from led (first.reached from led was);
}

pub adds_of : (t : Table) (AreLed AreAlso : List ℕ → Type 0) (s : Seen) (h : Heights) (s' : Seen) (h' : Heights) → ((from : List ℕ) → AreAlso from → AreLed from) → Adds t AreLed s h s' h' → Adds t AreAlso s h s' h'
adds_of t AreLed AreAlso s h s' h' of adds = record { trees = adds.trees; lists = adds.lists; closed = adds.closed; reached = λ from led was. adds.reached from (of from led) was }

pub adds_alike : (t : Table) (AreLed : List ℕ → Type 0) (s : Seen) (h h' : Heights) → IsSame h h' → Adds t AreLed s h s h'
adds_alike t AreLed s h h' same = record {
  trees = λ key was. was;
  lists = λ key state was. same key ∙ was;
  closed = λ was. record {
    trees = was.trees;
    lists = λ q next e known names is.
        elim (was.lists q next e (known.0, known.1, sym (same (bid_key q)) ∙ known.2) names is) [
          | inl tree ↦ inl tree
          | inr high ↦ inr (high.0, high.1, same (bid_key next) ∙ high.2)
        ];
  };
  reached = λ from led was. record { trees = was.trees; lists = λ key state known. was.lists key state (sym (same key) ∙ known) };
}

-- ---- what is known later

pub high_later : (h h' : Heights) (bid : ℕ) → ((key state : ℕ) → state_at h key ≡ Some state → state_at h' key ≡ Some state) → HasKnownHeight h bid → HasKnownHeight h' bid
high_later h h' bid lists w = (w.0, w.1, lists (bid_key bid) w.0 w.2)

pub entry_later : (t : Table) (AreLed : List ℕ → Type 0) (s : Seen) (h : Heights) (s' : Seen) (h' : Heights) (sub : Sub) → Adds t AreLed s h s' h' → IsKnownEntry t s h sub → IsKnownEntry t s' h' sub
entry_later t AreLed s h s' h' sub adds known = (
  (λ e is. has_stays s s' sub.bid_data adds.trees (known.0 e is)),
  (λ e is. high_later h h' sub.bid_sub adds.lists (known.1 e is)),
)

-- ---- the data of an entry

pub adds_data : (t : Table) (bid : ℕ) (s s' : Seen) (h : Heights) → trees.AddsTrees t (IsInTree t bid) s s' → Adds t (λ from. Leads t from bid) s h s' h
adds_data t bid s s' h adds = record {
  trees = adds.stays;
  lists = λ key state was. was;
  closed = λ was. record {
    trees = adds.closed was.trees;
    lists = λ q next e known names is.
        elim (was.lists q next e known names is) [
          | inl tree ↦ inl (has_stays s s' next adds.stays tree)
          | inr high ↦ inr high
        ];
  };
  reached = λ from led was. record {
    trees = λ key known. elim (adds.only key known) [ inl had ↦ was.trees key had | inr new ↦ tree_reached t from bid key led new ];
    lists = was.lists;
  };
}

pub adds_first : (t : Table) (sub : Sub) (s s' : Seen) (h : Heights) → trees.AddsTrees t (IsInTree t sub.bid_data) s s' → Adds t (λ from. AreLedTo t from sub) s h s' h
adds_first t sub s s' h first = adds_of t _ (λ from. AreLedTo t from sub) s h s' h (λ from led. led.0) (adds_data t sub.bid_data s s' h first)

-- and then its own list
pub adds_both : (t : Table) (sub : Sub) (s : Seen) (h : Heights) (s' s'' : Seen) (h'' : Heights) → trees.AddsTrees t (IsInTree t sub.bid_data) s s' → Adds t (λ from. Leads t from sub.bid_sub) s' h s'' h'' → Adds t (λ from. AreLedTo t from sub) s h s'' h''
adds_both t sub s h s' s'' h'' first second =
    adds_then t _ s h s' h s'' h'' (adds_first t sub s s' h first) (adds_of t _ _ s' h s'' h'' (λ from led. led.1) second)

pub both_known : (t : Table) (sub : Sub) (AreLed : List ℕ → Type 0) (s : Seen) (h : Heights) (s' : Seen) (h' : Heights) → trees.IsKnownTree t s sub.bid_data → Adds t AreLed s h s' h' → IsKnownList t h' sub.bid_sub → IsKnownEntry t s' h' sub
both_known t sub AreLed s h s' h' tree adds list = ((λ e is. has_stays s s' sub.bid_data adds.trees (tree e is)), list)

-- ---- a list is marked, and then it gets its height or is forgotten

-- it was not known, and is marked
pub record IsMarked (t : Table) (h begun : Heights) (bid : ℕ) (e : BlockEntry) : Type 0 where
  pub internal : IsInternal t bid e
  pub fresh : state_of h bid ≡ None
  pub put : IsPut h begun bid (Some 0)

adds_mark : (t : Table) (bid : ℕ) (e : BlockEntry) (s : Seen) (h begun : Heights) → IsMarked t h begun bid e → Adds t (λ from. Leads t from bid) s h s begun
adds_mark t bid e s h begun is = record {
  trees = λ key was. was;
  lists = stays;
  closed = λ was. record {
    trees = was.trees;
    lists = λ q next x known names internal.
        elim (put_cases h begun bid (Some 0) q is.put) [
          | inl own ↦ let both : Some known.0 ≡ Some 0 = sym known.2 ∙ own.1 in let bad : known.0 ≡ 0 = cc in absurd (omega (arith, bad, known.1))
          | inr same ↦
              elim (was.lists q next x (known.0, known.1, sym same ∙ known.2) names internal) [
                | inl tree ↦ inl tree
                | inr high ↦ inr (high_later h begun next stays high)
              ]
        ];
  };
  reached = λ from led was. record {
    trees = was.trees;
    lists = λ key state known.
        elim (put_at h begun bid (Some 0) key is.put) [
          | inl own ↦ (bid, e, led, is.internal, sym own.0)
          | inr same ↦ was.lists key state (sym same ∙ known)
        ];
  };
}
  where
    stays : (key state : ℕ) → state_at h key ≡ Some state → state_at begun key ≡ Some state
    stays key state was =
        elim (put_at h begun bid (Some 0) key is.put) [
          | inl own ↦ let bad : None ≡ Some state = sym is.fresh ∙ (ap (state_at h) own.0 ∙ was) in cc
          | inr same ↦ same ∙ was
        ]

put_own : (h new : Heights) (bid state : ℕ) → IsPut h new bid (Some state) → state_of new bid ≡ Some state
put_own h new bid state put = by_test (eq_by_cmp nat_cmp (bid_key bid) (bid_key bid)) (own (bid_key bid)) (put (bid_key bid))
  where
    own : (k : ℕ) → eq_by_cmp nat_cmp k k ≡ true
    own k = grind (arith, nat_tests)

    by_test : (v : Bool) → v ≡ true → state_of new bid ≡ cond v (Some state) (state_of h bid) → state_of new bid ≡ Some state
    by_test true e is = is
    by_test false e is = cc

-- a list that got its height is known
pub put_known : (t : Table) (h new : Heights) (bid height : ℕ) → 0 < height → IsPut h new bid (Some height) → IsKnownList t new bid
put_known t h new bid height more put e is = (height, more, put_own h new bid height put)

-- what was known before it is known still, whatever becomes of it
kept : (t : Table) (bid : ℕ) (e : BlockEntry) (h begun mid new : Heights) (last : Option ℕ) → IsMarked t h begun bid e → ((key state : ℕ) → state_at h key ≡ Some state → state_at mid key ≡ Some state) → IsPut mid new bid last → (key state : ℕ) → state_at h key ≡ Some state → state_at new key ≡ Some state
kept t bid e h begun mid new last is stays put key state was =
    elim (put_at mid new bid last key put) [
      | inl own ↦ let bad : None ≡ Some state = sym is.fresh ∙ (ap (state_at h) own.0 ∙ was) in cc
      | inr same ↦ same ∙ stays key state was
    ]

pub adds_forget : (t : Table) (bid : ℕ) (e : BlockEntry) (s s' : Seen) (h begun mid new : Heights) → IsMarked t h begun bid e → Adds t (λ from. Leads t from bid) s begun s' mid → IsPut mid new bid None → Adds t (λ from. Leads t from bid) s h s' new
adds_forget t bid e s s' h begun mid new is adds put =
    let whole = adds_then t (λ from. Leads t from bid) s h s begun s' mid (adds_mark t bid e s h begun is) adds in
    record {
      trees = whole.trees;
      lists = kept t bid e h begun mid new None is whole.lists put;
      closed = λ was. let then = whole.closed was in record {
        trees = then.trees;
        lists = λ q next x known names internal.
            elim (put_cases mid new bid None q put) [
              | inl own ↦ let bad : None ≡ Some known.0 = sym own.1 ∙ known.2 in cc
              | inr same ↦
                  elim (then.lists q next x (known.0, known.1, sym same ∙ known.2) names internal) [
                    | inl tree ↦ inl tree
                    | inr high ↦ inr (still next high)
                  ]
            ];
      };
      reached = λ from led was. let then = whole.reached from led was in record {
        trees = then.trees;
        lists = λ key state known.
            elim (put_at mid new bid None key put) [
              | inl own ↦ let bad : None ≡ Some state = sym own.1 ∙ known in cc
              | inr same ↦ then.lists key state (sym same ∙ known)
            ];
      };
    }
  where
    mark : state_of mid bid ≡ Some 0
    mark = adds.lists (bid_key bid) 0 (put_own h begun bid 0 is.put)

    still : (next : ℕ) → HasKnownHeight mid next → HasKnownHeight new next
    still next high =
        elim (put_cases mid new bid None next put) [
          | inl own ↦
              let both : Some 0 ≡ Some high.0 = sym mark ∙ (ap (state_at mid) own.0 ∙ high.2) in
              let bad : 0 ≡ high.0 = cc in absurd (omega (arith, bad, high.1))
          | inr same ↦ (high.0, high.1, same ∙ high.2)
        ]

pub adds_settle : (t : Table) (bid height : ℕ) (e : BlockEntry) (s s' : Seen) (h begun mid new : Heights) → 0 < height → IsMarked t h begun bid e → Adds t (λ from. Leads t from bid) s begun s' mid → IsPut mid new bid (Some height) → ((next : ℕ) (x : BlockEntry) → NamesNext t bid next → IsInternal t next x → IsKnownBlock s' mid next) → Adds t (λ from. Leads t from bid) s h s' new
adds_settle t bid height e s s' h begun mid new more is adds put names_known =
    let whole = adds_then t (λ from. Leads t from bid) s h s begun s' mid (adds_mark t bid e s h begun is) adds in
    record {
      trees = whole.trees;
      lists = kept t bid e h begun mid new (Some height) is whole.lists put;
      closed = λ was. let then = whole.closed was in record {
        trees = then.trees;
        lists = λ q next x known names internal.
            elim (put_cases mid new bid (Some height) q put) [
              | inl own ↦ still next (names_known next x (names_same t bid q next own.0 names) internal)
              | inr same ↦ still next (then.lists q next x (known.0, known.1, sym same ∙ known.2) names internal)
            ];
      };
      reached = λ from led was. let then = whole.reached from led was in record {
        trees = then.trees;
        lists = λ key state known.
            elim (put_at mid new bid (Some height) key put) [
              | inl own ↦ (bid, e, led, is.internal, sym own.0)
              | inr same ↦ then.lists key state (sym same ∙ known)
            ];
      };
    }
  where
    still : (next : ℕ) → IsKnownBlock s' mid next → IsKnownBlock s' new next
    still next (inl tree) = inl tree
    still next (inr high) =
        elim (put_cases mid new bid (Some height) next put) [
          | inl own ↦ inr (height, more, own.1)
          | inr same ↦ inr (high.0, high.1, same ∙ high.2)
        ]

-- the same by the list

marked : (t : Table) (bid : ℕ) (h begun : Heights) → list_fault t bid ≡ None → state_of h bid ≡ None → IsPut h begun bid (Some 0) → (e : BlockEntry) × IsMarked t h begun bid e
marked t bid h begun list fresh put = let w = list_block t bid list in (w.0, record { internal = w.1.internal; fresh = fresh; put = put })

pub forgets : (t : Table) (bid : ℕ) (s s' : Seen) (h begun mid new : Heights) → list_fault t bid ≡ None → state_of h bid ≡ None → IsPut h begun bid (Some 0) → Adds t (λ from. Leads t from bid) s begun s' mid → IsPut mid new bid None → Adds t (λ from. Leads t from bid) s h s' new
forgets t bid s s' h begun mid new list fresh put adds last = let w = marked t bid h begun list fresh put in adds_forget t bid w.0 s s' h begun mid new w.1 adds last

pub settles : (t : Table) (bid height : ℕ) (s s' : Seen) (h begun mid new : Heights) → 0 < height → list_fault t bid ≡ None → state_of h bid ≡ None → IsPut h begun bid (Some 0) → Adds t (λ from. Leads t from bid) s begun s' mid → IsPut mid new bid (Some height) → ((next : ℕ) (x : BlockEntry) → NamesNext t bid next → IsInternal t next x → IsKnownBlock s' mid next) → Adds t (λ from. Leads t from bid) s h s' new
settles t bid height s s' h begun mid new more list fresh put adds last names_known = let w = marked t bid h begun list fresh put in adds_settle t bid height w.0 s s' h begun mid new more w.1 adds last names_known
