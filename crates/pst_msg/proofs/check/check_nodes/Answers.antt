use Rattle.std.proofs.Common.{refl, ◌∙◌}
use Rattle.std.proofs.lemmas.Result.{err_from_is_err_and}
use Rattle.pst_fault.proofs.EachLemmas.{each_refused, each_next, each_done}
use Rattle.pst_ndb.specs.Roots.{Roots}
use Rattle.pst_ndb.specs.Views.{roots_of, table_of_ndb, nodes_of}
use Rattle.pst_mail.specs.Fault.{typed_node_fault}
use Rattle.pst_msg.specs.Growth.{NodeIn}
use Rattle.pst_msg.proofs.GrowLemmas.{nodes_grow, within_here, within_later, node_later, step_of, done_of}
use Rattle.pst_msg.proofs.check.check_nodes.Goals as goal

pub check_node-requires-clause-table : goal.check_node-requires-clause-table
check_node-requires-clause-table c = c.in-Some.ensures.steps.4 ∙ c.loop-node.invariant.table

pub returns-in_err-check_node-clause-exact : goal.returns-in_err-check_node-clause-exact
returns-in_err-check_node-clause-exact c =
    let p = err_from_is_err_and c.from_residual.result c.from_residual.ensures.1 in
    rw (p.1, p.2)
    (each_refused (typed_node_fault (table_of_ndb c.args.ndb.now) (nodes_of c.args.ndb.now)) _ _ _ _ _ c.in-Some.ensures.steps.1 c.in_err-check_node.ensures.exact c.loop-node.invariant.first)

pub returns-in_err-check_node-clause-grows : goal.returns-in_err-check_node-clause-grows
returns-in_err-check_node-clause-grows c = nodes_grow _ _ _ _ _ _ (within_here _ _ _ _ c.in-Some.ensures.steps.1 c.loop-node.invariant.within) c.loop-node.invariant.grows c.check_node.ensures.grows

pub loop-node-preserved : goal.loop-node-preserved
loop-node-preserved c =
    let table = table_of_ndb c.args.ndb.now in
    let nodes = nodes_of c.args.ndb.now in
    let before = c.loop-node.invariant in
    let step = c.in-Some.ensures.steps.1 in
    record {
      first = each_next (typed_node_fault table nodes) _ _ _ _ step c.in_ok-check_node.ensures.exact.0 before.first;
      known = c.check_node.ensures.known;
      listings = c.check_node.ensures.listings;
      grows = nodes_grow _ _ _ _ _ _ (within_here _ _ _ _ step before.within) before.grows c.check_node.ensures.grows;
      within = within_later _ _ _ _ step before.within;
      there = step_of (λ (r : Roots). NodeIn nodes c.loop-node.known r) (λ (r : Roots). NodeIn nodes c.check_node.new.known r) _ _ _ (roots_of c.in-Some.node) step (λ r was. node_later _ _ _ _ _ r c.check_node.ensures.grows was) c.in_ok-check_node.ensures.there before.there;
      table = c.in-Some.ensures.steps.2 ∙ before.table;
    }

pub returns-clause-there : goal.returns-clause-there
returns-clause-there c = done_of (λ (r : Roots). NodeIn (nodes_of c.args.ndb.now) c.loop-node.known r) _ _ c.in-None.ensures.steps.1.0 c.loop-node.invariant.there

pub returns-clause-exact : goal.returns-clause-exact
returns-clause-exact c = (each_done (typed_node_fault (table_of_ndb c.args.ndb.now) (nodes_of c.args.ndb.now)) _ _ c.in-None.ensures.steps.1.0 c.loop-node.invariant.first, refl)
