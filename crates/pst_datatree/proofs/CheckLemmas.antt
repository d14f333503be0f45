-- What the check of a data tree answers, in the grammar's words.
use Rattle.std.proofs.Common.{◌≡◌, ℕ, List, None, Result, Ok, Err, refl, ap}
use Rattle.std.specs.Prelude.{option_map, IfErr, OnOk}
use Rattle.pst_bytes.specs.declared.span.Span.{Span}
use Rattle.pst_fault.specs.declared.fault.Fault.{Fault}
use Rattle.pst_fault.specs.Fault.{at_node, no_memory}
use Rattle.pst_fault.specs.First.{Tells}
use Rattle.pst_fault.proofs.FirstLemmas.{only_memory}
use Rattle.pst_block.specs.Table.{Table}
use Rattle.pst_datatree.specs.Data.{data_spans, data_fault}
use Rattle.pst_datatree.specs.Relation.{HasData}
use Rattle.pst_datatree.proofs.RelationLemmas.{data_law}

pub has_data : (t : Table) (bid : ℕ) (r : Result (Unit {0}) Fault) → OnOk r (data_fault t bid ≡ None) → OnOk r (HasData t bid (data_spans t bid))
has_data t bid (Ok x) h = (data_law t bid (data_spans t bid)).1 (h, refl)
has_data t bid (Err f) h = tt

pub only_memory_refuses : (t : Table) (bid nid : ℕ) (spans : List Span) (r : Result (Unit {0}) Fault) → Tells r (option_map (at_node nid) (data_fault t bid)) tt → HasData t bid spans → IfErr r (λ f. f ≡ no_memory)
only_memory_refuses t bid nid spans (Ok x) h has = tt
only_memory_refuses t bid nid spans (Err f) h has = only_memory (option_map (at_node nid) (data_fault t bid)) f (ap (option_map (at_node nid)) ((data_law t bid spans).0 has).0) h
