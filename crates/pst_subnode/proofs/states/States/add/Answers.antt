use Rattle.pst_subnode.specs.States.{with_last}
use Rattle.pst_subnode.proofs.EntryLemmas.{put_at, put_more}
use Rattle.pst_subnode.proofs.states.States.add.Goals as goal

pub returns-clause-put : goal.returns-clause-put
returns-clause-put c q = rw (c.in_ok-put_aside.ensures.put, ← c.self.view_is) (put_at (with_last c.self.inside.last c.self.inside.rest.entries) c.args.key c.args.state q)

pub returns-clause-count : goal.returns-clause-count
returns-clause-count c =
    rw (c.in_ok-put_aside.ensures.put, ← c.self.view_is) (put_more (with_last c.self.inside.last c.self.inside.rest.entries) c.args.key c.args.state (rw (← c.self.view_is) at c.requires))
