-- What a property context asks of the list of subnodes of its node.
use Rattle.std.proofs.Common.{◌≡◌, ℕ, List, None, sym, ap, ◌∙◌}
use Rattle.std.specs.Prelude.{option_map}
use Rattle.pst_bytes.specs.declared.span.Span.{Span}
use Rattle.pst_fault.specs.Each.{first_of}
use Rattle.pst_fault.proofs.FirstLemmas.{both_none}
use Rattle.pst_block.specs.Table.{Table}
use Rattle.pst_ndb.specs.Roots.{Roots}
use Rattle.pst_heap.specs.Values.{HeapData, heap_at}
use Rattle.pst_heap.specs.Fault.{told_under}
use Rattle.pst_value.specs.declared.asks.Asks.{Asks}
use Rattle.pst_value.specs.Asks.{SameData}
use Rattle.pst_value.specs.Met.{HoldsWith}
use Rattle.pst_value.proofs.AskLemmas.{same_heap}
use Rattle.pst_pc.specs.Fault.{property_fault, untold_pc_fault, pc_fault}
use Rattle.pst_pc.specs.Values.{pc_records}
use Rattle.pst_pc.proofs.AlikeLaws.{records_in, fault_with}
use Rattle.pst_pc.proofs.PcLemmas.{PcFacts, facts}

untold_holds : (t : Table) (r s : Roots) → SameData r s → PcFacts t r → first_of (property_fault t s) (pc_records t r) ≡ None → untold_pc_fault t s ≡ None
unfolding untold_pc_fault pc_records
untold_holds t r s e sound none =
    sym (ap (λ (h : HeapData). fault_with h (first_of (property_fault t s) (records_in h))) (same_heap t r s e))
    ∙ both_none _ _ sound.heap (both_none _ _ sound.client (both_none _ _ sound.bth none))

-- where its records have no fault by a list, the same data is a property context without fault
pub pc_holds : (t : Table) (r : Roots) (asks : Asks) → pc_fault t r ≡ None → HoldsWith t r asks (λ s. first_of (property_fault t s) (pc_records t r)) → HoldsWith t r asks (pc_fault t)
unfolding pc_fault
pc_holds t r asks sound holds = λ s e met. ap (option_map (told_under s)) (untold_holds t r s e (facts t r sound) (holds s e met))
