use Rattle.std.proofs.Common.{◌≡◌, None, Option, length}
use Rattle.pst_fault.specs.declared.fault.Fault.{Fault}
use Rattle.pst_fault.specs.Each.{first_of}
use Rattle.pst_ndb.specs.Roots.{Roots}
use Rattle.pst_ndb.specs.Views.{roots_left, table_left, image_left}
use Rattle.pst_store.specs.Kind.{of_kind}
use Rattle.pst_intact.specs.Sought.{kind_sought}
use Rattle.pst_intact.proofs.sought.next_of.Given as goal

-- what is left has those that were left at first, and what holds of all nodes holds of those that are left
abbrev pub invariant-loop-node : goal.invariant-loop-node
invariant-loop-node l = record {
  kept : of_kind (kind_sought l.sought) (roots_left l.rest) ≡ of_kind (kind_sought l.sought) (roots_left l.nodes);
  sound : (part : Roots → Option Fault) → first_of part (roots_left l.nodes) ≡ None → first_of part (roots_left l.rest) ≡ None;
  table : table_left l.rest ≡ table_left l.nodes;
  image : image_left l.rest ≡ image_left l.nodes;
}

abbrev pub decreases-loop-node : goal.decreases-loop-node
decreases-loop-node l = length (roots_left l.rest)
