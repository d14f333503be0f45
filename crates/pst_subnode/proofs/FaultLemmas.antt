-- What is remembered of the faults below lists is true: a fault that is not nesting stays where more lists may nest, and nesting
-- where fewer may.
use Rattle.std.proofs.Common.{◌≡◌, ℕ, zero, suc, ◌≤◌, Bool, true, false, cond, List, [], ◌∷◌, Option, Some, None, ◌⊎◌, inl, inr, refl, sym, ap, ◌∙◌, arith}
use Rattle.std.specs.Ordering.{nat_cmp, eq_by_cmp}
use Rattle.std.specs.BTreeMap.{get, is_at, IsEmpty, IsUnchanged}
use Rattle.std.specs.BTreeSet.{contains}
use Rattle.std.specs.BTreeSet.{IsEmpty as HasNone}
use Rattle.std.proofs.lemmas.Map.Lookups.{exact_unsigned}
use Rattle.std.proofs.lemmas.Map.Views.{tells_apart}
use Rattle.pst_fault.specs.declared.fault.Fault.{Fault}
use Rattle.pst_fault.specs.declared.kind.Kind.TheVariants.{Nesting, NoMemory}
use Rattle.pst_fault.specs.First.{◌then◌, IsFirst}
use Rattle.pst_fault.specs.Each.{first_of}
use Rattle.pst_fault.proofs.FirstLemmas.{then_none, then_some}
use Rattle.pst_block.specs.Table.{Table}
use Rattle.pst_datatree.specs.Bid.{is_no_block}
use Rattle.pst_datatree.specs.Data.{data_fault}
use Rattle.pst_subnode.specs.declared.sub.Sub.{Sub}
use Rattle.pst_subnode.specs.declared.faults.Found.{Found}
use Rattle.pst_subnode.specs.declared.faults.SubFaults.{SubFaults}
use Rattle.pst_subnode.specs.List.{subs_of, list_fault}
use Rattle.pst_subnode.specs.Tree.{entry_fault, nesting, sub_fault}
use Rattle.pst_datatree.proofs.SeenLemmas.{only_new}
use Rattle.pst_subnode.specs.Faults.{found_of, deep_of, content_of, has_whole, IsFoundIn, IsDeep, AreSubFaultsTrue}
use Rattle.pst_subnode.proofs.SubLemmas.{sub_fault_none, sub_fault_below, sub_fault_list}

-- ---- under another limit

-- What has no fault under one limit has none under another, or this one; and what has this one keeps it.
abbrev Stays : Option Fault → Option Fault → Fault → Type 0
Stays old new f = (old ≡ None → (new ≡ None) ⊎ (new ≡ Some f)) × (old ≡ Some f → new ≡ Some f)

stays_same : (o : Option Fault) (f : Fault) → Stays o o f
stays_same o f = (λ e. inl e, λ e. e)

stays_then : (a b c d : Option Fault) (f : Fault) → Stays a c f → Stays b d f → Stays (a then b) (c then d) f
stays_then (Some x) b c d f one two = ((λ e. absurd cc), (λ e. then_some c d f (one.1 e)))
stays_then None b c d f one two =
    elim (one.0 refl) [
      | inl none ↦ (
        (λ e. elim (two.0 e) [ inl also ↦ inl (then_none c d none ∙ also) | inr is ↦ inr (then_none c d none ∙ is) ]),
        (λ e. then_none c d none ∙ two.1 e),
      )
      | inr is ↦ ((λ e. inr (then_some c d f is)), (λ e. then_some c d f is))
    ]

-- what each list keeps, entries keep, and the list of an identifier
stays_entry : (t : Table) (n m : ℕ) (s : Sub) (f : Fault) → ((b : ℕ) → Stays (sub_fault t n b) (sub_fault t m b) f) → Stays (entry_fault t (sub_fault t n) s) (entry_fault t (sub_fault t m) s) f
unfolding entry_fault
stays_entry t n m s f each = stays_then (data_fault t s.bid_data) (sub_fault t n s.bid_sub) (data_fault t s.bid_data) (sub_fault t m s.bid_sub) f (stays_same (data_fault t s.bid_data) f) (each s.bid_sub)

stays_entries : (t : Table) (n m : ℕ) (xs : List Sub) (f : Fault) → ((b : ℕ) → Stays (sub_fault t n b) (sub_fault t m b) f) → Stays (first_of (entry_fault t (sub_fault t n)) xs) (first_of (entry_fault t (sub_fault t m)) xs) f
unfolding first_of
stays_entries t n m [] f each = stays_same None f
stays_entries t n m (s ∷ rest) f each =
    stays_then (entry_fault t (sub_fault t n) s) (first_of (entry_fault t (sub_fault t n)) rest) (entry_fault t (sub_fault t m) s) (first_of (entry_fault t (sub_fault t m)) rest) f (stays_entry t n m s f each) (stays_entries t n m rest f each)

stays_list : (t : Table) (n m bid : ℕ) (f : Fault) → is_no_block bid ≡ false → ((b : ℕ) → Stays (sub_fault t n b) (sub_fault t m b) f) → Stays (sub_fault t (suc n) bid) (sub_fault t (suc m) bid) f
stays_list t n m bid f e each =
    rw (sub_fault_list t (suc n) n bid (omega arith) e, sub_fault_list t (suc m) m bid (omega arith) e) (stays_then (list_fault t bid) (first_of (entry_fault t (sub_fault t n)) (subs_of t bid)) (list_fault t bid) (first_of (entry_fault t (sub_fault t m)) (subs_of t bid)) f (stays_same (list_fault t bid) f) (stays_entries t n m (subs_of t bid) f each))

-- where more lists may nest, a fault that is not nesting stays
pub stays_deeper : (t : Table) (n m bid : ℕ) (f : Fault) → n ≤ m → (f ≡ nesting → ⊥) → Stays (sub_fault t n bid) (sub_fault t m bid) f
stays_deeper t zero m bid f le other = by_test (is_no_block bid) refl
  where
    by_test : (v : Bool) → is_no_block bid ≡ v → Stays (sub_fault t 0 bid) (sub_fault t m bid) f
    by_test true e = rw (sub_fault_none t 0 bid e, sub_fault_none t m bid e) (stays_same None f)
    by_test false e = rw (sub_fault_below t 0 bid refl e) ((λ h. absurd cc), (λ h. let same : f ≡ nesting = cc in absurd (other same)))
stays_deeper t (suc n) zero bid f le other = absurd (omega (arith, le))
stays_deeper t (suc n) (suc m) bid f le other = by_test (is_no_block bid) refl (λ b. stays_deeper t n m b f (omega (arith, le)) other)
  where
    by_test : (v : Bool) → is_no_block bid ≡ v → ((b : ℕ) → Stays (sub_fault t n b) (sub_fault t m b) f) → Stays (sub_fault t (suc n) bid) (sub_fault t (suc m) bid) f
    by_test true e each = rw (sub_fault_none t (suc n) bid e, sub_fault_none t (suc m) bid e) (stays_same None f)
    by_test false e each = stays_list t n m bid f e each

-- where fewer may, nesting stays
pub stays_lower : (t : Table) (n m bid : ℕ) → m ≤ n → Stays (sub_fault t n bid) (sub_fault t m bid) nesting
stays_lower t n zero bid le = by_test (is_no_block bid) refl
  where
    by_test : (v : Bool) → is_no_block bid ≡ v → Stays (sub_fault t n bid) (sub_fault t 0 bid) nesting
    by_test true e = rw (sub_fault_none t n bid e, sub_fault_none t 0 bid e) (stays_same None nesting)
    by_test false e = rw (sub_fault_below t 0 bid refl e) ((λ h. inr refl), (λ h. refl))
stays_lower t zero (suc m) bid le = absurd (omega (arith, le))
stays_lower t (suc n) (suc m) bid le = by_test (is_no_block bid) refl (λ b. stays_lower t n m b (omega (arith, le)))
  where
    by_test : (v : Bool) → is_no_block bid ≡ v → ((b : ℕ) → Stays (sub_fault t n b) (sub_fault t m b) nesting) → Stays (sub_fault t (suc n) bid) (sub_fault t (suc m) bid) nesting
    by_test true e each = rw (sub_fault_none t (suc n) bid e, sub_fault_none t (suc m) bid e) (stays_same None nesting)
    by_test false e each = stays_list t n m bid nesting e each

-- ---- what is remembered

pub none_remembered : (t : Table) (k : SubFaults) → IsEmpty k.lists → IsEmpty k.deep → IsEmpty k.content → HasNone k.whole → AreSubFaultsTrue t k
unfolding found_of deep_of content_of has_whole
none_remembered t k lists deep content whole = record {
  lists = λ bid x is. let bad : None ≡ Some x = (rw lists at is) in absurd cc;
  deep = λ bid most is. let bad : None ≡ Some most = (rw deep at is) in absurd cc;
  content = λ bid f is. let bad : None ≡ Some f = (rw content at is) in absurd cc;
  whole = λ bid is. let bad : false ≡ true = (rw whole at is) in absurd cc;
}

-- one fault of a list more, or where lists nest too deep, or of data, or one whole list
pub found_put : (t : Table) (old new : SubFaults) (bid : ℕ) (x : Found) → ((q : ℕ) → get nat_cmp new.lists q ≡ cond (eq_by_cmp nat_cmp bid q) (Some x) (get nat_cmp old.lists q)) → new.deep ≡ old.deep → new.content ≡ old.content → new.whole ≡ old.whole → IsFoundIn t bid x → AreSubFaultsTrue t old → AreSubFaultsTrue t new
unfolding found_of deep_of content_of has_whole
found_put t old new bid x put deep content whole is are = record {
  lists = λ q y found. by_test q y (eq_by_cmp nat_cmp bid q) refl (sym (put q) ∙ found);
  deep = λ q most found. are.deep q most (rw deep at found);
  content = λ q f found. are.content q f (rw content at found);
  whole = λ q found. are.whole q (rw whole at found);
}
  where
    by_test : (q : ℕ) (y : Found) (v : Bool) → eq_by_cmp nat_cmp bid q ≡ v → cond v (Some x) (get nat_cmp old.lists q) ≡ Some y → IsFoundIn t q y
    by_test q y true here found =
        let same : x ≡ y = cc in
        let key : bid ≡ q = tells_apart exact_unsigned bid q here in
        rw (← same, ← key) is
    by_test q y false here found = are.lists q y found

pub deep_put : (t : Table) (old new : SubFaults) (bid most : ℕ) → ((q : ℕ) → get nat_cmp new.deep q ≡ cond (eq_by_cmp nat_cmp bid q) (Some most) (get nat_cmp old.deep q)) → new.lists ≡ old.lists → new.content ≡ old.content → new.whole ≡ old.whole → IsDeep t bid most → AreSubFaultsTrue t old → AreSubFaultsTrue t new
unfolding found_of deep_of content_of has_whole
deep_put t old new bid most put lists content whole is are = record {
  lists = λ q y found. are.lists q y (rw lists at found);
  deep = λ q n found. by_test q n (eq_by_cmp nat_cmp bid q) refl (sym (put q) ∙ found);
  content = λ q f found. are.content q f (rw content at found);
  whole = λ q found. are.whole q (rw whole at found);
}
  where
    by_test : (q n : ℕ) (v : Bool) → eq_by_cmp nat_cmp bid q ≡ v → cond v (Some most) (get nat_cmp old.deep q) ≡ Some n → IsDeep t q n
    by_test q n true here found =
        let same : most ≡ n = cc in
        let key : bid ≡ q = tells_apart exact_unsigned bid q here in
        rw (← same, ← key) is
    by_test q n false here found = are.deep q n found

pub data_put : (t : Table) (old new : SubFaults) (bid : ℕ) (f : Fault) → ((q : ℕ) → get nat_cmp new.content q ≡ cond (eq_by_cmp nat_cmp bid q) (Some f) (get nat_cmp old.content q)) → new.lists ≡ old.lists → new.deep ≡ old.deep → new.whole ≡ old.whole → data_fault t bid ≡ Some f → AreSubFaultsTrue t old → AreSubFaultsTrue t new
unfolding found_of deep_of content_of has_whole
data_put t old new bid f put lists deep whole is are = record {
  lists = λ q y found. are.lists q y (rw lists at found);
  deep = λ q most found. are.deep q most (rw deep at found);
  content = λ q g found. by_test q g (eq_by_cmp nat_cmp bid q) refl (sym (put q) ∙ found);
  whole = λ q found. are.whole q (rw whole at found);
}
  where
    by_test : (q : ℕ) (g : Fault) (v : Bool) → eq_by_cmp nat_cmp bid q ≡ v → cond v (Some f) (get nat_cmp old.content q) ≡ Some g → data_fault t q ≡ Some g
    by_test q g true here found =
        let same : f ≡ g = cc in
        let key : bid ≡ q = tells_apart exact_unsigned bid q here in
        rw (← same, ← key) is
    by_test q g false here found = are.content q g found

pub whole_put : (t : Table) (old new : SubFaults) (bid : ℕ) → ((q : ℕ) → contains nat_cmp new.whole q ≡ cond (is_at (nat_cmp bid) q) true (contains nat_cmp old.whole q)) → new.lists ≡ old.lists → new.deep ≡ old.deep → new.content ≡ old.content → list_fault t bid ≡ None → AreSubFaultsTrue t old → AreSubFaultsTrue t new
unfolding found_of deep_of content_of has_whole
whole_put t old new bid more lists deep content none are = record {
  lists = λ q y found. are.lists q y (rw lists at found);
  deep = λ q most found. are.deep q most (rw deep at found);
  content = λ q f found. are.content q f (rw content at found);
  whole = each;
}
  where
    each : (q : ℕ) → contains nat_cmp new.whole q ≡ true → list_fault t q ≡ None
    each q found = elim (only_new old.whole new.whole bid more q found) [ inl was ↦ are.whole q was | inr same ↦ rw (← same) none ]

-- memory was refused, and the same is remembered
pub same_remembered : (t : Table) (old new : SubFaults) → IsUnchanged old.lists new.lists → IsUnchanged old.deep new.deep → IsUnchanged old.content new.content → new.whole ≡ old.whole → AreSubFaultsTrue t old → AreSubFaultsTrue t new
unfolding found_of deep_of content_of has_whole
same_remembered t old new lists deep content whole are = record {
  lists = λ q y found. are.lists q y (rw lists at found);
  deep = λ q most found. are.deep q most (rw deep at found);
  content = λ q f found. are.content q f (rw content at found);
  whole = λ q found. are.whole q (rw whole at found);
}

-- ---- the fault of a walk

-- a fault is the first one, where memory was not refused
pub told : (first : Option Fault) (f : Fault) → IsFirst first f → (f.kind ≡ NoMemory → ⊥) → first ≡ Some f
told first f (inl memory) told_it = absurd (told_it (ap (λ (g : Fault). g.kind) memory))
told first f (inr is) told_it = is

pub found_there : (t : Table) (bid limit : ℕ) (f : Fault) → IsFirst (sub_fault t limit bid) f → (f.kind ≡ NoMemory → ⊥) → (f.kind ≡ Nesting → ⊥) → IsFoundIn t bid (record { least = limit; fault = f })
found_there t bid limit f first told_it other = λ high le. (stays_deeper t limit high bid f le (λ same. other (ap (λ (g : Fault). g.kind) same))).1 (told (sub_fault t limit bid) f first told_it)

pub deep_there : (t : Table) (bid limit : ℕ) (f : Fault) → IsFirst (sub_fault t limit bid) f → f ≡ nesting → IsDeep t bid limit
deep_there t bid limit f first same = λ low le. (stays_lower t limit low bid le).1 (told (sub_fault t limit bid) nesting (rw same at first) (λ e. cc))
