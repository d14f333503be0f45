use Rattle.std.proofs.Common.{◌∙◌, ◌≡◌, false, true, sym, subst}
use Rattle.std.specs.Option.{is_some}
use Rattle.pst_export.specs.Walk.{TakesHeld, walk_left}
use Rattle.pst_export.proofs.WalkLemmas.{begun_none, begun_some, indexes_of, over_last, over_rest, stays_none}
use Rattle.pst_export.proofs.walk.Walk.next.Goals as goal

pub begin-requires : goal.begin-requires
begin-requires c =
    let t = c.requires.0 in
    let all = c.loop-task.invariant.over t c.requires.1 in
    let this = over_last t c.pop.new.self.items c.loop-task.self.tasks.items c.in-Some.task c.in-Some.ensures.items all in
    indexes_of t _ c.loop-task.index this (c.loop-task.invariant.index t c.requires.1 c.requires.2)

pub returns-then-is_some-clause-index : goal.returns-then-is_some-clause-index
returns-then-is_some-clause-index c t over are =
    let this = over_last t c.pop.new.self.items c.loop-task.self.tasks.items c.in-Some.task c.in-Some.ensures.items (c.loop-task.invariant.over t over) in
    indexes_of _ t c.begin.new.index (sym this) c.begin.ensures.index

pub returns-in_err-item-clause-index : goal.returns-in_err-item-clause-index
returns-in_err-item-clause-index c t over are =
    let this = over_last t c.pop.new.self.items c.loop-task.self.tasks.items c.in-Some.task c.in-Some.ensures.items (c.loop-task.invariant.over t over) in
    indexes_of _ t c.begin.new.index (sym this) c.begin.ensures.index

pub returns-then-is_some-clause-left : goal.returns-then-is_some-clause-left
returns-then-is_some-clause-left c =
    let some : is_some c.in_ok-item.item ≡ true = sym c.is_some.ensures ∙ c.if-is_some.true in
    subst (λ l. TakesHeld c.in_ok-item.item l (walk_left c.begin.new.self)) (sym c.loop-task.invariant.left)
    (begun_some c.in_ok-item.item c.in-Some.task c.loop-task.self.tasks.items _ c.begin.new.self some c.in-Some.ensures.items c.in_ok-item.ensures.left)

pub returns-then-is_some-clause-over : goal.returns-then-is_some-clause-over
returns-then-is_some-clause-over c t over =
    let all = c.loop-task.invariant.over t over in
    let this = over_last t c.pop.new.self.items c.loop-task.self.tasks.items c.in-Some.task c.in-Some.ensures.items all in
    c.in_ok-item.ensures.over t (over_rest t c.pop.new.self.items c.loop-task.self.tasks.items c.in-Some.task c.in-Some.ensures.items all) this

pub loop-task-preserved : goal.loop-task-preserved
loop-task-preserved c =
    let none : is_some c.in_ok-item.item ≡ false = sym c.is_some.ensures ∙ c.if-is_some.false in
    record {
      left = c.loop-task.invariant.left ∙ begun_none c.in_ok-item.item c.in-Some.task c.loop-task.self.tasks.items _ c.begin.new.self none c.in-Some.ensures.items c.in_ok-item.ensures.left;
      index = λ t over are.
          let this = over_last t c.pop.new.self.items c.loop-task.self.tasks.items c.in-Some.task c.in-Some.ensures.items (c.loop-task.invariant.over t over) in
          indexes_of _ t c.begin.new.index (sym this) c.begin.ensures.index;
      over = λ t over.
          let all = c.loop-task.invariant.over t over in
          let this = over_last t c.pop.new.self.items c.loop-task.self.tasks.items c.in-Some.task c.in-Some.ensures.items all in
          stays_none c.in_ok-item.item t c.begin.new.self none
          (c.in_ok-item.ensures.over t (over_rest t c.pop.new.self.items c.loop-task.self.tasks.items c.in-Some.task c.in-Some.ensures.items all) this);
    }
