use Rattle.std.proofs.Common.{◌≡◌}
use Rattle.std.specs.Prelude.{Some, None}
use Rattle.pst_fault.specs.declared.kind.Kind.TheVariants.{Property as BadProperty}
use Rattle.pst_fault.specs.Fault.{fault_at}
use Rattle.pst_ndb.specs.Views.{table_of_node, roots_of}
use Rattle.pst_pc.specs.View.{node_of_pc}
use Rattle.pst_names.specs.Fault.{entries_fault}
use Rattle.pst_names.proofs.NamesLemmas.{streams_refused, entries_refused, nothing_refused}
use Rattle.pst_names.proofs.check.check_all.Goals as goal

pub returns-in-Err : goal.returns-in-Err
returns-in-Err c =
    let node = node_of_pc c.args.pc.now in
    record { exact = rw (c.told_of.ensures, c.node.ensures) (streams_refused (table_of_node node) (roots_of node) c.in-Err.fault c.in-Err.ensures.exact) }

pub returns-in-None : goal.returns-in-None
returns-in-None c =
    let node = node_of_pc c.args.pc.now in
    let t = table_of_node node in
    let r = roots_of node in
    let none : None ≡ entries_fault t r = rw c.in-None.is at c.in_ok-bad_place.ensures.first in
    record { exact = nothing_refused t r c.in_default.ensures.exact none }

pub returns-in-Some : goal.returns-in-Some
returns-in-Some c =
    let node = node_of_pc c.args.pc.now in
    let t = table_of_node node in
    let r = roots_of node in
    let some : Some (fault_at BadProperty c.in-Some.at) ≡ entries_fault t r = rw c.in-Some.is at c.in_ok-bad_place.ensures.first in
    record { exact = rw (c.told_of-in-Some.ensures, c.node-in-Some.ensures, c.at.ensures) (entries_refused t r (fault_at BadProperty c.in-Some.at) c.in_default.ensures.exact some) }
