-- Property contexts of roots that are alike.
use Rattle.std.proofs.Common.{◌≡◌, ℕ, List, map, Option, None, sym, ap, ◌∙◌}
use Rattle.std.specs.Prelude.{option_map}
use Rattle.pst_bytes.specs.declared.span.Span.{Span}
use Rattle.pst_fault.specs.declared.fault.Fault.{Fault}
use Rattle.pst_fault.specs.Each.{first_of}
use Rattle.pst_fault.specs.First.{◌then◌}
use Rattle.pst_fault.proofs.ToldLemmas.{told_none}
use Rattle.pst_fault.proofs.EachLemmas.{first_of_same}
use Rattle.pst_fault.proofs.GeneralLemmas.{map_same}
use Rattle.pst_block.specs.Table.{Table}
use Rattle.pst_ndb.specs.Roots.{Roots}
use Rattle.pst_heap.specs.Values.{user_root_of, user_root_place, HeapData, heap_at}
use Rattle.pst_heap.specs.Fault.{heap_fault, client_fault, told_under}
use Rattle.pst_bth.specs.Values.{bth_records}
use Rattle.pst_bth.specs.Fault.{bth_fault}
use Rattle.pst_ndb.specs.Alike.{Alike}
use Rattle.pst_value.proofs.AlikeLaws.{heap_alike, value_alike, fault_alike}
use Rattle.pst_pc.specs.Fault.{property_fault, untold_pc_fault, pc_fault}
use Rattle.pst_pc.specs.Laws.{AlikePcLaw}
use Rattle.pst_pc.specs.Values.{pc_client, pc_sizes, pc_records, record_place, kind_in, raw_in, property_with, property_at, props_of}

-- ---- the same function of each member of a list

-- ---- the properties

abbrev pub records_in : HeapData → List (ℕ × Span)
records_in h = bth_records h pc_sizes (user_root_of h)

property_alike : (t : Table) (r s : Roots) → Alike r s → (x : ℕ × Span) → property_at t r x ≡ property_at t s x
property_alike t r s e x = ap (property_with t.image x.0 (kind_in t.image x.1)) (value_alike t r s (kind_in t.image x.1) (raw_in x.1) e)

props_alike : (t : Table) (r s : Roots) → Alike r s → props_of t r ≡ props_of t s
unfolding props_of pc_records
props_alike t r s e =
    ap (λ (h : HeapData). map (property_at t r) (records_in h)) (heap_alike t r s e)
    ∙ map_same (property_at t r) (property_at t s) (property_alike t r s e) (records_in (heap_at t s))

-- ---- the first fault

part_alike : (t : Table) (r s : Roots) → Alike r s → (x : ℕ × Span) → property_fault t r x ≡ property_fault t s x
unfolding property_fault
part_alike t r s e x = fault_alike t r s (kind_in t.image x.1) (record_place x.1) (raw_in x.1) e

abbrev pub fault_with : HeapData → Option Fault → Option Fault
fault_with h records =
    heap_fault h then client_fault pc_client h then bth_fault h pc_sizes (user_root_place h) (user_root_of h) then records

untold_alike : (t : Table) (r s : Roots) → Alike r s → untold_pc_fault t r ≡ untold_pc_fault t s
unfolding untold_pc_fault pc_records
untold_alike t r s e =
    ap (λ (h : HeapData). fault_with h (first_of (property_fault t r) (records_in h))) (heap_alike t r s e)
    ∙ ap (fault_with (heap_at t s)) (first_of_same (property_fault t r) (property_fault t s) (part_alike t r s e) (records_in (heap_at t s)))

none_alike : (t : Table) (r s : Roots) → untold_pc_fault t r ≡ untold_pc_fault t s → pc_fault t r ≡ None → pc_fault t s ≡ None
unfolding pc_fault
none_alike t r s same none = ap (option_map (told_under s)) (sym same ∙ told_none (told_under r) (untold_pc_fault t r) none)

pub alike_pc_law : AlikePcLaw
alike_pc_law t r s e =
    let same = untold_alike t r s e in
    (props_alike t r s e, same, (none_alike t r s same, none_alike t s r (sym same)))
