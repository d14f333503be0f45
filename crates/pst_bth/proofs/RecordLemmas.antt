-- Records, one after another, and the record that is found under a key.
use Rattle.std.proofs.Common.{◌≡◌, ℕ, Bool, true, false, cond, eqb, List, [], ◌∷◌, map, Option, Some, None, refl, ap}
use Rattle.std.specs.Prelude.{option_map}
use Rattle.pst_bytes.specs.declared.span.Span.{Span}
use Rattle.pst_fault.specs.declared.fault.Fault.{Fault}
use Rattle.pst_fault.specs.Each.{first_of}
use Rattle.pst_fault.proofs.FirstLemmas.{none_then}
use Rattle.pst_fault.proofs.EachLemmas.{each_next, each_done}
use Rattle.pst_fault.proofs.ToldLemmas.{told_none, told_first}
use Rattle.pst_btree.specs.Entries.{first_with}
use Rattle.pst_btree.proofs.EntryLemmas.{with_contains}
use Rattle.pst_bth.specs.Values.{record_key, record_span}

-- one more record without a fault
pub record_next : (part : ℕ × Span → Option Fault) (g : Fault → Fault) (xs rest : List (ℕ × Span)) (x : ℕ × Span) (total : Option Fault) → xs ≡ x ∷ rest → option_map g (part x) ≡ None → first_of part xs ≡ total → first_of part rest ≡ total
record_next part g xs rest x total is passed so_far = each_next part xs rest x total is (told_none g (part x) passed) so_far

-- a record with a fault
pub record_fails : (part : ℕ × Span → Option Fault) (g : Fault → Fault) (xs rest : List (ℕ × Span)) (x : ℕ × Span) (total : Option Fault) (f : Fault) → xs ≡ x ∷ rest → option_map g (part x) ≡ Some f → first_of part xs ≡ total → option_map g total ≡ Some f
unfolding first_of
record_fails part g xs rest x total f is failed so_far = rw (← (rw is at so_far)) (told_first g (part x) (first_of part rest) f failed)

-- no record is left
pub records_done : (part : ℕ × Span → Option Fault) (g : Fault → Fault) (xs : List (ℕ × Span)) (total : Option Fault) → xs ≡ [] → first_of part xs ≡ total → option_map g total ≡ None
records_done part g xs total is so_far = ap (option_map g) (each_done part xs total is so_far)

-- what is found under a key, by the span of its data
pub found_span : (key : ℕ) (s : Span) (records : List (ℕ × Span)) → Some s ≡ option_map record_span (first_with record_key key records) → first_with record_key key records ≡ Some (key, s)
found_span key s records is = by_span (first_with record_key key records) (λ x found. (with_contains record_key records key x found).1) is
  where
    by_span : (found : Option (ℕ × Span)) → ((x : ℕ × Span) → found ≡ Some x → x.0 ≡ key) → Some s ≡ option_map record_span found → found ≡ Some (key, s)
    by_span None keyed e = absurd cc
    by_span (Some x) keyed e =
        let k : x.0 ≡ key = keyed x refl in
        let v : x.1 ≡ s = cc in
        rw (← k, ← v) refl

-- it has no fault, where no record has one
pub found_part : (part : ℕ × Span → Option Fault) (xs : List (ℕ × Span)) (key : ℕ) (x : ℕ × Span) → first_of part xs ≡ None → first_with record_key key xs ≡ Some x → part x ≡ None
unfolding first_with first_of
found_part part [] key x none is = absurd cc
found_part part (y ∷ rest) key x none is =
    let both = none_then (part y) (first_of part rest) none in
    by_test (eqb (record_key y) key) both.0 (λ e. found_part part rest key x both.1 e) is
  where
    by_test : (b : Bool) → part y ≡ None → (first_with record_key key rest ≡ Some x → part x ≡ None) → cond b (Some y) (first_with record_key key rest) ≡ Some x → part x ≡ None
    by_test true first later e = let same : y ≡ x = cc in rw (← same) first
    by_test false first later e = later e

-- of what is made of each record, and keeps its key, what is found is made of the record that is found
pub found_made : {X : Type 0} (key_of : X → ℕ) (make : ℕ × Span → X) (key : ℕ) (xs : List (ℕ × Span)) → ((x : ℕ × Span) → key_of (make x) ≡ record_key x) → first_with key_of key (map make xs) ≡ option_map make (first_with record_key key xs)
unfolding first_with
found_made key_of make key [] same = refl
found_made key_of make key (x ∷ rest) same = rw (same x) (by_test (eqb (record_key x) key) (found_made key_of make key rest same))
  where
    by_test : (b : Bool) → first_with key_of key (map make rest) ≡ option_map make (first_with record_key key rest)
        → cond b (Some (make x)) (first_with key_of key (map make rest)) ≡ option_map make (cond b (Some x) (first_with record_key key rest))
    by_test true ih = refl
    by_test false ih = ih

pub nothing_made : {X : Type 0} (make : ℕ × Span → X) (found : Option (ℕ × Span)) → None ≡ option_map record_span found → option_map make found ≡ None
nothing_made make None e = refl
nothing_made make (Some x) e = absurd cc
