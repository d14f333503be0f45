-- What a contract sees of TCINFO with the row matrix: TCINFO, the table context, and the item.
use Rattle.pst_bytes.specs.declared.span.Span.{Span}
use Rattle.pst_tc.specs.declared.tc.Tc.{Tc}
use Rattle.pst_tc.specs.declared.front.Front.{Front}
use Rattle.pst_tc.specs.declared.grid.Grid.{Grid}
use Rattle.pst_tc.specs.Front.{front_tc, front_item}

abbrev pub grid_front : Grid → Front
grid_front g = g.front

abbrev pub grid_tc : Grid → Tc
grid_tc g = front_tc g.front

abbrev pub grid_item : Grid → Span
grid_item g = front_item g.front
