-- Laws of property contexts.
use Rattle.std.specs.Prelude.{◌≡◌, ℕ, ◌↔◌, List, None, map}
use Rattle.pst_bytes.specs.declared.span.Span.{Span}
use Rattle.pst_block.specs.Table.{Table}
use Rattle.pst_btree.specs.Order.{Rises}
use Rattle.pst_ndb.specs.Roots.{Roots}
use Rattle.pst_ndb.specs.Alike.{Alike}
use Rattle.pst_pc.specs.Fault.{untold_pc_fault, pc_fault}
use Rattle.pst_pc.specs.Grammar.{HasPc, IsPc}
use Rattle.pst_pc.specs.Values.{id_of, pc_records, props_of}

-- There is a property context exactly where it has no first fault; and then it has these records.
abbrev pub PcLaw : Type 0
PcLaw = (t : Table) (r : Roots) → IsPc t r ↔ (pc_fault t r ≡ None)

abbrev pub PcRecordsLaw : Type 0
PcRecordsLaw = (t : Table) (r : Roots) (records : List (ℕ × Span)) → HasPc t r records → records ≡ pc_records t r

-- The identifiers of its properties rise: each is there once, so that it is a finite map.
abbrev pub PcRiseLaw : Type 0
PcRiseLaw = (t : Table) (r : Roots) → pc_fault t r ≡ None → Rises 0 None (map id_of (props_of t r))

-- Roots that are alike have the same property context: the same properties, with the same bytes at the same places, and the same
-- first fault, but for the node that it is told of. So the one has none exactly where the other has none.
abbrev pub AlikePcLaw : Type 0
AlikePcLaw =
    (t : Table) (r s : Roots) → Alike r s →
    (props_of t r ≡ props_of t s)
    × (untold_pc_fault t r ≡ untold_pc_fault t s)
    × ((pc_fault t r ≡ None) ↔ (pc_fault t s ≡ None))
