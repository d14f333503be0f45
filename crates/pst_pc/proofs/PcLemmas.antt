-- A property context, step by step.
use Rattle.std.proofs.Common.{◌≡◌, ℕ, ◌+◌, ◌-◌, List, ◌∷◌, Some, None, refl, sym, ap, ◌∙◌, inl, inr}
use Rattle.std.specs.Prelude.{option_map}
use Rattle.pst_bytes.specs.declared.span.Span.{Span}
use Rattle.pst_bytes.specs.Image.{num}
use Rattle.pst_fault.specs.declared.fault.Fault.{Fault}
use Rattle.pst_fault.specs.First.{IsFirst}
use Rattle.pst_fault.proofs.FirstLemmas.{none_then}
use Rattle.pst_block.specs.Table.{Table}
use Rattle.pst_ndb.specs.Roots.{Roots}
use Rattle.pst_fault.specs.Each.{first_of}
use Rattle.pst_btree.specs.Entries.{first_with}
use Rattle.pst_fault.proofs.EachLemmas.{each_first, each_rest}
use Rattle.pst_fault.proofs.ToldLemmas.{told_none, told_first, told_next}
use Rattle.pst_heap.specs.Values.{user_root_of, user_root_place, heap_at}
use Rattle.pst_heap.specs.Fault.{heap_fault, client_fault, told_under}
use Rattle.pst_bth.specs.Values.{bth_records, record_key, record_span}
use Rattle.pst_bth.specs.Fault.{bth_fault}
use Rattle.pst_bth.proofs.BthLaws.{name_law}
use Rattle.pst_bth.proofs.RecordLemmas.{found_span, found_part, found_made, nothing_made}
use Rattle.pst_value.specs.Fault.{value_fault}
use Rattle.pst_value.proofs.ValueLaws.{place_law}
use Rattle.pst_pc.specs.Fault.{property_fault, untold_pc_fault, pc_fault}
use Rattle.pst_pc.specs.Values.{pc_client, pc_sizes, pc_records, property_at, props_of, id_of}

-- ---- the context

pub heap_fails : (t : Table) (r : Roots) (f : Fault) → option_map (told_under r) (heap_fault (heap_at t r)) ≡ Some f → pc_fault t r ≡ Some f
unfolding pc_fault untold_pc_fault
heap_fails t r f e = told_first (told_under r) (heap_fault (heap_at t r)) _ f e

pub heap_refused : (t : Table) (r : Roots) (f : Fault) → IsFirst (option_map (told_under r) (heap_fault (heap_at t r))) f → IsFirst (pc_fault t r) f
heap_refused t r f (inl out) = inl out
heap_refused t r f (inr e) = inr (heap_fails t r f e)

pub client_fails : (t : Table) (r : Roots) (f : Fault) → option_map (told_under r) (heap_fault (heap_at t r)) ≡ None → option_map (told_under r) (client_fault pc_client (heap_at t r)) ≡ Some f → pc_fault t r ≡ Some f
unfolding pc_fault untold_pc_fault
client_fails t r f a e = told_next (told_under r) _ _ a ∙ told_first (told_under r) (client_fault pc_client (heap_at t r)) _ f e

pub bth_fails : (t : Table) (r : Roots) (f : Fault) → option_map (told_under r) (heap_fault (heap_at t r)) ≡ None → option_map (told_under r) (client_fault pc_client (heap_at t r)) ≡ None
    → option_map (told_under r) (bth_fault (heap_at t r) pc_sizes (user_root_place (heap_at t r)) (user_root_of (heap_at t r))) ≡ Some f → pc_fault t r ≡ Some f
unfolding pc_fault untold_pc_fault
bth_fails t r f a b e = told_next (told_under r) _ _ a ∙ told_next (told_under r) _ _ b ∙ told_first (told_under r) (bth_fault (heap_at t r) pc_sizes (user_root_place (heap_at t r)) (user_root_of (heap_at t r))) _ f e

-- where nothing failed up to the BTH, what is left is the records
pub all_left : (t : Table) (r : Roots) → option_map (told_under r) (heap_fault (heap_at t r)) ≡ None → option_map (told_under r) (client_fault pc_client (heap_at t r)) ≡ None
    → option_map (told_under r) (bth_fault (heap_at t r) pc_sizes (user_root_place (heap_at t r)) (user_root_of (heap_at t r))) ≡ None
    → option_map (told_under r) (first_of (property_fault t r) (bth_records (heap_at t r) pc_sizes (user_root_of (heap_at t r)))) ≡ pc_fault t r
unfolding pc_fault untold_pc_fault pc_records
all_left t r a b c = sym (told_next (told_under r) _ _ a ∙ told_next (told_under r) _ _ b ∙ told_next (told_under r) _ _ c)

-- ---- without fault

pub record PcFacts (t : Table) (r : Roots) : Type 0 where
  pub heap : heap_fault (heap_at t r) ≡ None
  pub client : client_fault pc_client (heap_at t r) ≡ None
  pub bth : bth_fault (heap_at t r) pc_sizes (user_root_place (heap_at t r)) (user_root_of (heap_at t r)) ≡ None
  pub records : first_of (property_fault t r) (pc_records t r) ≡ None

pub facts : (t : Table) (r : Roots) → pc_fault t r ≡ None → PcFacts t r
unfolding pc_fault untold_pc_fault
facts t r none =
    let a = none_then _ _ (told_none (told_under r) _ none) in
    let b = none_then _ _ a.1 in
    let c = none_then _ _ b.1 in
    record { heap = a.0; client = b.0; bth = c.0; records = c.1 }

pub has_heap : (t : Table) (r : Roots) → pc_fault t r ≡ None → heap_fault (heap_at t r) ≡ None
has_heap t r none = PcFacts.heap (facts t r none)

pub has_bth : (t : Table) (r : Roots) → pc_fault t r ≡ None → bth_fault (heap_at t r) pc_sizes 0 (user_root_of (heap_at t r)) ≡ None
has_bth t r none = name_law (heap_at t r) pc_sizes (user_root_place (heap_at t r)) 0 (user_root_of (heap_at t r)) (PcFacts.bth (facts t r none))

pub has_records : (t : Table) (r : Roots) → pc_fault t r ≡ None → first_of (property_fault t r) (pc_records t r) ≡ None
has_records t r none = PcFacts.records (facts t r none)

pub has_value : (t : Table) (r : Roots) (id kind : ℕ) (s : Span) → property_fault t r (id, s) ≡ None → kind ≡ num t.image s.at 2 → value_fault t r kind 0 (record { at = s.at + 2; len = 4 }) ≡ None
unfolding property_fault
has_value t r id kind s none is = rw is (place_law t r (num t.image s.at 2) (s.at - 2) 0 (record { at = s.at + 2; len = 4 }) none)

-- ---- one property

same_place : (t : Table) (r : Roots) (a b : ℕ) (s : Span) → property_fault t r (a, s) ≡ property_fault t r (b, s)
unfolding property_fault
same_place t r a b s = refl

pub first_sound : (t : Table) (r : Roots) (xs rest : List (ℕ × Span)) (x : ℕ × Span) (id : ℕ) → first_of (property_fault t r) xs ≡ None → xs ≡ x ∷ rest → property_fault t r (id, x.1) ≡ None
first_sound t r xs rest x id none is = same_place t r id x.0 x.1 ∙ each_first (property_fault t r) xs rest x none is

pub rest_sound : (t : Table) (r : Roots) (xs rest : List (ℕ × Span)) (x : ℕ × Span) → first_of (property_fault t r) xs ≡ None → xs ≡ x ∷ rest → first_of (property_fault t r) rest ≡ None
rest_sound t r xs rest x none is = each_rest (property_fault t r) xs rest x none is

pub found_sound : (t : Table) (r : Roots) (key : ℕ) (s : Span) → pc_fault t r ≡ None → Some s ≡ option_map record_span (first_with record_key key (pc_records t r)) → property_fault t r (key, s) ≡ None
found_sound t r key s none is =
    let xs = pc_records t r in
    found_part (property_fault t r) xs key (key, s) (has_records t r none) (found_span key s xs is)

pub found_property : (t : Table) (r : Roots) (key : ℕ) (s : Span) → Some s ≡ option_map record_span (first_with record_key key (pc_records t r)) → first_with id_of key (props_of t r) ≡ Some (property_at t r (key, s))
unfolding props_of
found_property t r key s is =
    let xs = pc_records t r in
    found_made id_of (property_at t r) key xs (λ x. refl) ∙ ap (option_map (property_at t r)) (found_span key s xs is)

pub found_nothing : (t : Table) (r : Roots) (key : ℕ) → None ≡ option_map record_span (first_with record_key key (pc_records t r)) → first_with id_of key (props_of t r) ≡ None
unfolding props_of
found_nothing t r key is = found_made id_of (property_at t r) key (pc_records t r) (λ x. refl) ∙ nothing_made (property_at t r) (first_with record_key key (pc_records t r)) is
