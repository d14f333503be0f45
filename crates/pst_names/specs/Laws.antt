-- Laws of the name map.
use Rattle.std.specs.Prelude.{◌≡◌, ◌↔◌, None}
use Rattle.pst_block.specs.Table.{Table}
use Rattle.pst_ndb.specs.Roots.{Roots}
use Rattle.pst_names.specs.Fault.{names_fault}
use Rattle.pst_names.specs.Grammar.{IsNameMap}

-- There is a name map exactly where it has no first fault.
abbrev pub NameMapLaw : Type 0
NameMapLaw = (t : Table) (r : Roots) → IsNameMap t r ↔ (names_fault t r ≡ None)
