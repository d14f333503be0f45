-- The grammar of property contexts, and their first fault, say the same.
use Rattle.std.proofs.Common.{◌≡◌, ℕ, List, [], ◌∷◌, map, None, refl, ap, ◌↔◌}
use Rattle.pst_bytes.specs.declared.span.Span.{Span}
use Rattle.pst_fault.proofs.FirstLemmas.{both_none}
use Rattle.pst_block.specs.Table.{Table}
use Rattle.pst_ndb.specs.Roots.{Roots}
use Rattle.pst_fault.specs.Each.{first_of}
use Rattle.pst_fault.proofs.EachLemmas.{of_none, none_of}
use Rattle.pst_fault.proofs.ToldLemmas.{none_told}
use Rattle.pst_heap.specs.Fault.{told_under}
use Rattle.pst_heap.specs.Values.{user_root_of, user_root_place, heap_at}
use Rattle.pst_heap.proofs.HeapLaws.{none_heap, heap_none, client_law}
use Rattle.pst_bth.specs.Values.{bth_records, record_key}
use Rattle.pst_bth.specs.Fault.{bth_fault}
use Rattle.pst_bth.specs.Grammar.{IsBth}
use Rattle.pst_bth.proofs.BthLaws.{bth_law, rise_law}
use Rattle.pst_value.specs.Values.{value_spans}
use Rattle.pst_value.proofs.ValueLaws.{value_law}
use Rattle.pst_pc.specs.Fault.{property_fault, untold_pc_fault, pc_fault}
use Rattle.pst_pc.specs.Values.{pc_client, pc_sizes, kind_in, raw_in, record_place, pc_records, id_of, property_at, props_of}
use Rattle.pst_pc.specs.Grammar.{HasProperty, IsPc}
use Rattle.pst_pc.specs.Laws.{PcLaw, PcRecordsLaw, PcRiseLaw}
use Rattle.pst_pc.proofs.PcLemmas.{facts}

property_law : (t : Table) (r : Roots) (x : ℕ × Span) → HasProperty t r x ↔ (property_fault t r x ≡ None)
unfolding property_fault
property_law t r x = (
  (λ w. ((value_law t r (kind_in t.image x.1) (record_place x.1) (raw_in x.1) w.0).0 w.1).0),
  (λ e.
      let spans = value_spans t r (kind_in t.image x.1) (raw_in x.1) in
      (spans, (value_law t r (kind_in t.image x.1) (record_place x.1) (raw_in x.1) spans).1 (e, refl))),
)

pub records_law : PcRecordsLaw
unfolding pc_records
records_law t r records pc = ((bth_law (heap_at t r) pc_sizes 0 (user_root_of (heap_at t r)) records).0 pc.bth).1

has_bth : (t : Table) (r : Roots) → bth_fault (heap_at t r) pc_sizes (user_root_place (heap_at t r)) (user_root_of (heap_at t r)) ≡ None → IsBth (heap_at t r) pc_sizes (user_root_of (heap_at t r)) (pc_records t r)
unfolding pc_records
has_bth t r e = (bth_law (heap_at t r) pc_sizes (user_root_place (heap_at t r)) (user_root_of (heap_at t r)) (pc_records t r)).1 (e, refl)

pub pc_law : PcLaw
unfolding pc_fault untold_pc_fault
pc_law t r = (
  (λ w.
      let pc = w.1 in
      let h = heap_at t r in
      let is = records_law t r w.0 pc in
      let values : first_of (property_fault t r) (pc_records t r) ≡ None = rw (← is) (of_none (property_fault t r) w.0 (λ x c. (property_law t r x).0 (pc.values x c))) in
      none_told (told_under r) _ (both_none _ _ (heap_none h pc.heap) (both_none _ _ ((client_law h pc_client).0 pc.client) (both_none _ _ ((bth_law h pc_sizes (user_root_place h) (user_root_of h) w.0).0 pc.bth).0 values)))),
  (λ none.
      let f = facts t r none in (
        pc_records t r,
        record {
          heap = none_heap (heap_at t r) f.heap;
          client = (client_law (heap_at t r) pc_client).1 f.client;
          bth = has_bth t r f.bth;
          values = λ x c. (property_law t r x).1 (none_of (property_fault t r) (pc_records t r) x f.records c);
        },
      )),
)

pub none_pc : (t : Table) (r : Roots) → pc_fault t r ≡ None → IsPc t r
none_pc t r none = (pc_law t r).1 none

pub pc_none : (t : Table) (r : Roots) → IsPc t r → pc_fault t r ≡ None
pc_none t r is = (pc_law t r).0 is

-- ---- the identifiers rise

ids_of_records : (t : Table) (r : Roots) (xs : List (ℕ × Span)) → map id_of (map (property_at t r) xs) ≡ map record_key xs
ids_of_records t r [] = refl
ids_of_records t r (x ∷ rest) = ap (λ ids. x.0 ∷ ids) (ids_of_records t r rest)

pub rise_of_props : PcRiseLaw
unfolding props_of pc_records
rise_of_props t r none =
    let h = heap_at t r in
    let root = user_root_of h in
    let f = facts t r none in
    rw (ids_of_records t r (bth_records h pc_sizes root)) (rise_law h pc_sizes (user_root_place h) root f.bth)
