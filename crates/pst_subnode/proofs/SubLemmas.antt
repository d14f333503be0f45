-- The equations of a tree of lists.
use Rattle.std.proofs.Common.{◌≡◌, ℕ, zero, suc, ◌+◌, max, Bool, true, false, List, [], ◌∷◌, Option, Some, None, refl, sym, ◌∙◌, arith}
use Rattle.std.specs.Prelude.{cond}
use Rattle.pst_fault.specs.declared.fault.Fault.{Fault}
use Rattle.pst_fault.specs.First.{◌then◌}
use Rattle.pst_fault.proofs.FirstLemmas.{then_none, none_then}
use Rattle.pst_block.specs.Table.{Table}
use Rattle.pst_datatree.specs.Bid.{is_no_block}
use Rattle.pst_datatree.specs.Data.{data_fault}
use Rattle.pst_subnode.specs.declared.sub.Sub.{Sub}
use Rattle.pst_subnode.specs.List.{subs_of, list_fault}
use Rattle.pst_subnode.specs.Tree.{most_among, entry_fault, entry_height, nesting, sub_fault, sub_height}
use Rattle.pst_fault.specs.Each.{first_of}
use Rattle.pst_subnode.specs.Laws.{MoreLaw}

-- ---- entries, one after another

pub most_end : (height : Sub → ℕ) (m : ℕ) (xs : List Sub) → xs ≡ [] → max m (most_among height xs) ≡ m
unfolding most_among
most_end height m xs is = rw is (omega arith)

pub most_more : (height : Sub → ℕ) (m n : ℕ) (xs rest : List Sub) (s : Sub) → xs ≡ s ∷ rest → n ≡ max m (height s) → max n (most_among height rest) ≡ max m (most_among height xs)
unfolding most_among
most_more height m n xs rest s is this = rw (is, this) (omega arith)

-- ---- a block identifier

pub sub_fault_none : (t : Table) (limit bid : ℕ) → is_no_block bid ≡ true → sub_fault t limit bid ≡ None
unfolding sub_fault
sub_fault_none t zero bid e = rw e refl
sub_fault_none t (suc limit) bid e = rw e refl

pub sub_height_none : (t : Table) (limit bid : ℕ) → is_no_block bid ≡ true → sub_height t limit bid ≡ 0
unfolding sub_height
sub_height_none t zero bid e = refl
sub_height_none t (suc limit) bid e = rw e refl

-- a list that may not begin
pub sub_fault_below : (t : Table) (limit bid : ℕ) → limit ≡ 0 → is_no_block bid ≡ false → sub_fault t limit bid ≡ Some nesting
unfolding sub_fault
sub_fault_below t limit bid z e = rw (z, e) refl

sub_fault_suc : (t : Table) (limit bid : ℕ) → is_no_block bid ≡ false → sub_fault t (suc limit) bid ≡ (list_fault t bid then first_of (entry_fault t (sub_fault t limit)) (subs_of t bid))
unfolding sub_fault
sub_fault_suc t limit bid e = rw e refl

-- a list that may begin, where one fewer may below it
pub sub_fault_list : (t : Table) (limit below bid : ℕ) → below + 1 ≡ limit → is_no_block bid ≡ false → sub_fault t limit bid ≡ (list_fault t bid then first_of (entry_fault t (sub_fault t below)) (subs_of t bid))
sub_fault_list t limit below bid h e = let more : limit ≡ suc below = omega arith in rw more (sub_fault_suc t below bid e)

pub sub_height_suc : (t : Table) (limit bid : ℕ) → is_no_block bid ≡ false → sub_height t (suc limit) bid ≡ most_among (entry_height (sub_height t limit)) (subs_of t bid) + 1
unfolding sub_height
sub_height_suc t limit bid e = rw e refl

pub sub_height_list : (t : Table) (limit below bid : ℕ) → below + 1 ≡ limit → is_no_block bid ≡ false → sub_height t limit bid ≡ most_among (entry_height (sub_height t below)) (subs_of t bid) + 1
sub_height_list t limit below bid h e = let more : limit ≡ suc below = omega arith in rw more (sub_height_suc t below bid e)

-- ---- laws

pub no_block : (b : Bool) → cond b None (Some nesting) ≡ None → b ≡ true
no_block true h = refl
no_block false h = cc

entry_more : (t : Table) (below more : ℕ → Option Fault) (s : Sub) → ((b : ℕ) → below b ≡ None → more b ≡ None) → entry_fault t below s ≡ None → entry_fault t more s ≡ None
unfolding entry_fault
entry_more t below more s h e =
    let p = none_then (data_fault t s.bid_data) (below s.bid_sub) e in
    then_none _ _ p.0 ∙ h s.bid_sub p.1

entries_more : (t : Table) (below more : ℕ → Option Fault) (xs : List Sub) → ((b : ℕ) → below b ≡ None → more b ≡ None) → first_of (entry_fault t below) xs ≡ None → first_of (entry_fault t more) xs ≡ None
unfolding first_of
entries_more t below more [] h e = refl
entries_more t below more (s ∷ rest) h e =
    let p = none_then (entry_fault t below s) (first_of (entry_fault t below) rest) e in
    then_none _ _ (entry_more t below more s h p.0) ∙ entries_more t below more rest h p.1

-- what may nest so deep may nest deeper
pub sub_fault_more : MoreLaw
unfolding sub_fault
sub_fault_more t zero bid h = sub_fault_none t 1 bid (no_block (is_no_block bid) h)
sub_fault_more t (suc limit) bid h = by_test (is_no_block bid) refl (λ b. sub_fault_more t limit b)
  where
    by_test : (v : Bool) → is_no_block bid ≡ v → ((b : ℕ) → sub_fault t limit b ≡ None → sub_fault t (suc limit) b ≡ None) → sub_fault t (suc (suc limit)) bid ≡ None
    by_test true e more = sub_fault_none t (suc (suc limit)) bid e
    by_test false e more =
        let p = none_then (list_fault t bid) (first_of (entry_fault t (sub_fault t limit)) (subs_of t bid)) (sym (sub_fault_suc t limit bid e) ∙ h) in
        sub_fault_suc t (suc limit) bid e ∙ (then_none _ _ p.0 ∙ entries_more t (sub_fault t limit) (sub_fault t (suc limit)) (subs_of t bid) more p.1)
