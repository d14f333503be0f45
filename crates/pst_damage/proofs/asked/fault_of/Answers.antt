use Rattle.std.proofs.Common.{◌≡◌, None, sym, ◌∙◌}
use Rattle.std.proofs.lemmas.Result.{IfOk-weaker}
use Rattle.pst_ndb.specs.Fault.{node_fault}
use Rattle.pst_ndb.specs.Views.{roots_of}
use Rattle.pst_damage.specs.Left.{left_table, left_nodes, left_pages}
use Rattle.pst_damage.proofs.RiseLemmas.{asked_is}
use Rattle.pst_damage.proofs.asked.fault_of.Goals as goal

pub returns-clause-exact : goal.returns-clause-exact
returns-clause-exact c =
    let t = left_table c.args.left.now in
    let e = c.args.entry in
    let none : None ≡ node_fault t e = sym c.in_default.is ∙ c.requires.own in
    IfOk-weaker c.found.result _ _ (λ o is. asked_is t (left_nodes c.args.left.now) (left_pages c.args.left.now) e (roots_of c.node_of-node.result) o none c.node_of-node.ensures.roots is) (c.found.ensures.exact _ c.check_asked.ensures.exact)
