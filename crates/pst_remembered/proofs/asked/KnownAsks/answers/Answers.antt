use Rattle.std.proofs.Common.{rules, ◌≡◌, Some, sym, ◌∙◌}
use Rattle.std.specs.BTreeMap.{get}
use Rattle.pst_ndb.specs.Views.{roots_of}
use Rattle.pst_remembered.specs.Asked.{AreAskedTrue}
use Rattle.pst_remembered.specs.Keys.{key_cmp}
use Rattle.pst_remembered.proofs.asked.KnownAsks.answers.Goals as goal

pub returns-in-Some : goal.returns-in-Some
unfolding AreAskedTrue
returns-in-Some c = λ met.
    let found : get key_cmp c.args.self.now.asks c.args.key ≡ Some c.in-Some.asks.now = search rules in
    c.requires.known c.args.key c.in-Some.asks.now found c.args.role (roots_of c.args.node) (sym c.requires.role) (sym c.requires.block) (sym c.are_met.ensures ∙ met)
