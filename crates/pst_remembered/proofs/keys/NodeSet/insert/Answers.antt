use Rattle.std.proofs.Common.{refl}
use Rattle.pst_remembered.specs.declared.keys.NodeSet.{NodeSet}
use Rattle.pst_remembered.proofs.KeyLemmas.{alone_inserted, other_inserted, only_inserted, still_there, inserted_there, one_more_key}
use Rattle.pst_remembered.proofs.keys.NodeSet.insert.Goals as goal

pub returns-then-sub-eq0-clause-only : goal.returns-then-sub-eq0-clause-only
returns-then-sub-eq0-clause-only c =
    let new : NodeSet = record { alone = c.insert.new.self; others = c.args.self.now.others } in
    only_inserted c.insert.result c.args.self.now new c.args.taken (alone_inserted c.insert.result c.args.self.now new c.args.taken c.if-sub-eq0.true c.are_sorted.ensures refl c.insert.ensures.inserted c.insert.ensures.same)

pub returns-then-sub-eq0-clause-grows : goal.returns-then-sub-eq0-clause-grows
returns-then-sub-eq0-clause-grows c =
    let new : NodeSet = record { alone = c.insert.new.self; others = c.args.self.now.others } in
    still_there c.insert.result c.args.self.now new c.args.taken (alone_inserted c.insert.result c.args.self.now new c.args.taken c.if-sub-eq0.true c.are_sorted.ensures refl c.insert.ensures.inserted c.insert.ensures.same)

pub returns-then-sub-eq0-clause-there : goal.returns-then-sub-eq0-clause-there
returns-then-sub-eq0-clause-there c =
    let new : NodeSet = record { alone = c.insert.new.self; others = c.args.self.now.others } in
    inserted_there c.insert.result c.args.self.now new c.args.taken (alone_inserted c.insert.result c.args.self.now new c.args.taken c.if-sub-eq0.true c.are_sorted.ensures refl c.insert.ensures.inserted c.insert.ensures.same)

pub returns-then-sub-eq0-clause-more : goal.returns-then-sub-eq0-clause-more
returns-then-sub-eq0-clause-more c =
    let new : NodeSet = record { alone = c.insert.new.self; others = c.args.self.now.others } in
    one_more_key c.insert.result c.args.self.now new c.args.taken (alone_inserted c.insert.result c.args.self.now new c.args.taken c.if-sub-eq0.true c.are_sorted.ensures refl c.insert.ensures.inserted c.insert.ensures.same)

pub returns-else-sub-eq0-clause-only : goal.returns-else-sub-eq0-clause-only
returns-else-sub-eq0-clause-only c =
    let new : NodeSet = record { alone = c.args.self.now.alone; others = c.insert-else-sub-eq0.new.self } in
    only_inserted c.insert-else-sub-eq0.result c.args.self.now new c.args.taken (other_inserted c.insert-else-sub-eq0.result c.args.self.now new c.args.taken c.are_sorted.ensures refl c.insert-else-sub-eq0.ensures.inserted c.insert-else-sub-eq0.ensures.same)

pub returns-else-sub-eq0-clause-grows : goal.returns-else-sub-eq0-clause-grows
returns-else-sub-eq0-clause-grows c =
    let new : NodeSet = record { alone = c.args.self.now.alone; others = c.insert-else-sub-eq0.new.self } in
    still_there c.insert-else-sub-eq0.result c.args.self.now new c.args.taken (other_inserted c.insert-else-sub-eq0.result c.args.self.now new c.args.taken c.are_sorted.ensures refl c.insert-else-sub-eq0.ensures.inserted c.insert-else-sub-eq0.ensures.same)

pub returns-else-sub-eq0-clause-there : goal.returns-else-sub-eq0-clause-there
returns-else-sub-eq0-clause-there c =
    let new : NodeSet = record { alone = c.args.self.now.alone; others = c.insert-else-sub-eq0.new.self } in
    inserted_there c.insert-else-sub-eq0.result c.args.self.now new c.args.taken (other_inserted c.insert-else-sub-eq0.result c.args.self.now new c.args.taken c.are_sorted.ensures refl c.insert-else-sub-eq0.ensures.inserted c.insert-else-sub-eq0.ensures.same)

pub returns-else-sub-eq0-clause-more : goal.returns-else-sub-eq0-clause-more
returns-else-sub-eq0-clause-more c =
    let new : NodeSet = record { alone = c.args.self.now.alone; others = c.insert-else-sub-eq0.new.self } in
    one_more_key c.insert-else-sub-eq0.result c.args.self.now new c.args.taken (other_inserted c.insert-else-sub-eq0.result c.args.self.now new c.args.taken c.are_sorted.ensures refl c.insert-else-sub-eq0.ensures.inserted c.insert-else-sub-eq0.ensures.same)
