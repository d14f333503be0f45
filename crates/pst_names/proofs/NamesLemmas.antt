-- The first fault of a name map by that of its streams and of its entries.
use Rattle.std.proofs.Common.{◌≡◌, Some, None, sym, ap, ◌∙◌, inr}
use Rattle.std.specs.Prelude.{option_map}
use Rattle.pst_fault.specs.declared.fault.Fault.{Fault}
use Rattle.pst_fault.specs.First.{IsFirst}
use Rattle.pst_fault.proofs.FirstLemmas.{then_some, then_none}
use Rattle.pst_block.specs.Table.{Table}
use Rattle.pst_ndb.specs.Roots.{Roots}
use Rattle.pst_heap.specs.Fault.{told_under}
use Rattle.pst_names.specs.Fault.{streams_fault, entries_fault, names_fault}

pub streams_refused : (t : Table) (r : Roots) (f : Fault) → streams_fault t r ≡ Some f → IsFirst (names_fault t r) (told_under r f)
unfolding names_fault
streams_refused t r f e = inr (ap (option_map (told_under r)) (then_some (streams_fault t r) (entries_fault t r) f e))

pub entries_refused : (t : Table) (r : Roots) (f : Fault) → streams_fault t r ≡ None → Some f ≡ entries_fault t r → IsFirst (names_fault t r) (told_under r f)
unfolding names_fault
entries_refused t r f none e = inr (ap (option_map (told_under r)) (then_none (streams_fault t r) (entries_fault t r) none ∙ sym e))

pub nothing_refused : (t : Table) (r : Roots) → streams_fault t r ≡ None → None ≡ entries_fault t r → names_fault t r ≡ None
unfolding names_fault
nothing_refused t r none e = ap (option_map (told_under r)) (then_none (streams_fault t r) (entries_fault t r) none ∙ sym e)
