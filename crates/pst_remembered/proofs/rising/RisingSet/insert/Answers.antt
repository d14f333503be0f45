use Rattle.pst_remembered.proofs.RisingLemmas.{with_inserted, rising_inserted, with_placed}
use Rattle.pst_remembered.proofs.rising.RisingSet.insert.Goals as goal

pub returns-in-Some-clause-inserted : goal.returns-in-Some-clause-inserted
returns-in-Some-clause-inserted g c = rw (c.in_ok-insert.ensures.items, ← c.self.view_is) (with_placed g.K.Ord.cmp g.met.K.Ord.total c.requires c.self.inside.run.items c.self.inside.rest.keys c.in-Some.at c.args.key c.self.invariant.ordered)

pub invariant_of-self-2 : goal.invariant_of-self-2
invariant_of-self-2 g c = rw (c.in_ok-insert_in_rest.ensures.inserted, c.in_ok-insert_in_rest.ensures.top) (rising_inserted g.K.Ord.cmp g.met.K.Ord.total c.self-2.inside.run.items c.self-2.inside.rest.keys c.self-2.inside.top c.args.key c.self-2.invariant)

pub returns-clause-inserted : goal.returns-clause-inserted
returns-clause-inserted g c = rw (c.in_ok-insert_in_rest.ensures.inserted, ← c.in_ok-move_last.ensures.same, ← c.self-2.view_is) (with_inserted g.K.Ord.cmp g.met.K.Ord.total c.requires c.self-2.inside.run.items c.self-2.inside.rest.keys c.args.key c.self-2.invariant.ordered)
