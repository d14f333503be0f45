-- What is judged beside what is claimed before it: what has a fault claims nothing, and its neighbours are looked at all the same.
use Rattle.std.specs.Prelude.{ℕ, Option}
use Rattle.pst_bytes.specs.declared.span.Span.{Span}
use Rattle.pst_fault.specs.declared.fault.Fault.{Fault}
use Rattle.pst_fault.specs.declared.kind.Kind.TheVariants.{Overlap}
use Rattle.pst_fault.specs.Fault.{fault_in}
use Rattle.pst_fault.specs.First.{holds_or}
use Rattle.pst_space.specs.Claimed.{Claimed, is_clear, first_unit, unit_count}

-- something lies there already
unfoldable pub overlap_fault : Claimed → Span → ℕ → Option Fault
overlap_fault claimed span bid = holds_or (is_clear claimed (first_unit span) (unit_count span)) (fault_in Overlap span.at bid)
