-- What a contract sees of TCINFO, looked up: the table context, and the item.
use Rattle.pst_bytes.specs.declared.span.Span.{Span}
use Rattle.pst_tc.specs.declared.tc.Tc.{Tc}
use Rattle.pst_tc.specs.declared.front.Front.{Front}

abbrev pub front_tc : Front → Tc
front_tc f = f.tc

abbrev pub front_item : Front → Span
front_item f = f.item
