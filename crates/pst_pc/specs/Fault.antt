-- The first fault of a property context.
use Rattle.std.specs.Prelude.{ℕ, Option, option_map}
use Rattle.pst_bytes.specs.declared.span.Span.{Span}
use Rattle.pst_fault.specs.declared.fault.Fault.{Fault}
use Rattle.pst_fault.specs.Each.{first_of}
use Rattle.pst_fault.specs.First.{◌then◌}
use Rattle.pst_block.specs.Table.{Table}
use Rattle.pst_ndb.specs.Roots.{Roots}
use Rattle.pst_heap.specs.Values.{user_root_of, user_root_place, heap_at}
use Rattle.pst_heap.specs.Fault.{heap_fault, client_fault, told_under}
use Rattle.pst_bth.specs.Fault.{bth_fault}
use Rattle.pst_value.specs.Fault.{value_fault}
use Rattle.pst_pc.specs.Values.{pc_client, pc_sizes, pc_records, record_place, kind_in, raw_in}

-- of the value of a record
unfoldable pub property_fault : Table → Roots → ℕ × Span → Option Fault
property_fault t r x = value_fault t r (kind_in t.image x.1) (record_place x.1) (raw_in x.1)

-- Of the heap, of its client signature, of the BTH that its user root names, and of the records in order; told of no node.
unfoldable pub untold_pc_fault : Table → Roots → Option Fault
untold_pc_fault t r =
    let h = heap_at t r in
    heap_fault h then client_fault pc_client h then bth_fault h pc_sizes (user_root_place h) (user_root_of h)
    then first_of (property_fault t r) (pc_records t r)

-- of the property context of a node
unfoldable pub pc_fault : Table → Roots → Option Fault
pc_fault t r = option_map (told_under r) (untold_pc_fault t r)
