use Rattle.std.proofs.Common.{refl, [], ◌≡◌, arith}
use Rattle.std.proofs.lemmas.List.{nil_from_length}
use Rattle.std.proofs.lemmas.Result.{err_from_is_err_and}
use Rattle.pst_ndb.specs.Views.{table_of_node, roots_of}
use Rattle.pst_msg.specs.Counts.{HasMessage}
use Rattle.pst_msg.specs.Frames.{IsWentOn}
use Rattle.pst_msg.specs.Growth.{Grows}
use Rattle.pst_msg.specs.Known.{IsTrueOf, WholeIn}
use Rattle.pst_msg.proofs.BrokenLemmas.{stack_waits}
use Rattle.pst_msg.proofs.FrameLemmas.{stack_begun, stack_top, stack_refused, stack_popped, one_pushed, one_popped, none_waits, fewer_pushed, turn_grows}
use Rattle.pst_msg.proofs.message.check_message.Goals as goal

pub loop-stack-init : goal.loop-stack-init
loop-stack-init c = record {
  known = c.open_message.ensures.opening.known;
  grows = c.open_message.ensures.opening.grows;
  stack = stack_begun (table_of_node c.args.node) c.open_message.new.known (roots_of c.args.node) c.new-stack.result.items c.in-Some.first c.new-stack.ensures.items (rw c.in-Some.is at c.in_ok-first.ensures.opening.opened);
}

-- ---- the message that is gone on with

pub go_on-requires-clause-known : goal.go_on-requires-clause-known
go_on-requires-clause-known c =
    let top = stack_top (table_of_node c.args.node) (roots_of c.args.node) c.loop-stack.known c.loop-stack.last _ c.loop-stack.invariant.stack in
    rw top.frame.table c.loop-stack.invariant.known

pub go_on-requires-clause-frame : goal.go_on-requires-clause-frame
go_on-requires-clause-frame c =
    let top = stack_top (table_of_node c.args.node) (roots_of c.args.node) c.loop-stack.known c.loop-stack.last _ c.loop-stack.invariant.stack in
    rw top.frame.table top.frame

pub go_on-requires-clause-holder : goal.go_on-requires-clause-holder
go_on-requires-clause-holder c =
    let top = stack_top (table_of_node c.args.node) (roots_of c.args.node) c.loop-stack.known c.loop-stack.last _ c.loop-stack.invariant.stack in
    rw top.frame.table top.holder

pub go_on-requires-clause-stack : goal.go_on-requires-clause-stack
go_on-requires-clause-stack c =
    let t = table_of_node c.args.node in
    let top = stack_top t (roots_of c.args.node) c.loop-stack.known c.loop-stack.last _ c.loop-stack.invariant.stack in
    rw (top.frame.table, c.deref.ensures.value) (stack_waits t (roots_of c.args.node) c.loop-stack.known c.loop-stack.last c.loop-stack.stack.items c.loop-stack.invariant.known c.loop-stack.invariant.stack)

-- ---- it has a fault

pub returns-in_err-above-clause-known : goal.returns-in_err-above-clause-known
returns-in_err-above-clause-known c =
    let top = stack_top (table_of_node c.args.node) (roots_of c.args.node) c.loop-stack.known c.loop-stack.last _ c.loop-stack.invariant.stack in
    rw top.frame.table at c.go_on.ensures.known

pub returns-in_err-above-clause-grows : goal.returns-in_err-above-clause-grows
returns-in_err-above-clause-grows c =
    let t = table_of_node c.args.node in
    let top = stack_top t (roots_of c.args.node) c.loop-stack.known c.loop-stack.last _ c.loop-stack.invariant.stack in
    turn_grows t (roots_of c.args.node) (roots_of c.loop-stack.last.node) _ c.loop-stack.known c.go_on.new.known top.reached c.loop-stack.invariant.grows (rw top.frame.table at c.go_on.ensures.grows)

pub returns-in_err-above-clause-exact : goal.returns-in_err-above-clause-exact
returns-in_err-above-clause-exact c =
    let p = err_from_is_err_and c.from_residual-in_err-above.result c.from_residual-in_err-above.ensures.1 in
    let t = table_of_node c.args.node in
    let top = stack_top t (roots_of c.args.node) c.loop-stack.known c.loop-stack.last _ c.loop-stack.invariant.stack in
    rw (p.1, p.2) (stack_refused t (roots_of c.args.node) c.loop-stack.known c.loop-stack.last _ _ c.loop-stack.invariant.known (rw top.frame.table at c.in_err-above.ensures.refused) c.loop-stack.invariant.stack)

-- ---- it waits for one that an attachment of it embeds

pub returns-in_err-push-in-Some-2-clause-known : goal.returns-in_err-push-in-Some-2-clause-known
returns-in_err-push-in-Some-2-clause-known c =
    let top = stack_top (table_of_node c.args.node) (roots_of c.args.node) c.loop-stack.known c.loop-stack.last _ c.loop-stack.invariant.stack in
    rw top.frame.table at c.go_on.ensures.known

pub returns-in_err-push-in-Some-2-clause-grows : goal.returns-in_err-push-in-Some-2-clause-grows
returns-in_err-push-in-Some-2-clause-grows c =
    let t = table_of_node c.args.node in
    let top = stack_top t (roots_of c.args.node) c.loop-stack.known c.loop-stack.last _ c.loop-stack.invariant.stack in
    turn_grows t (roots_of c.args.node) (roots_of c.loop-stack.last.node) _ c.loop-stack.known c.go_on.new.known top.reached c.loop-stack.invariant.grows (rw top.frame.table at c.go_on.ensures.grows)

pub loop-stack-smaller-in-Some-2 : goal.loop-stack-smaller-in-Some-2
loop-stack-smaller-in-Some-2 c =
    let t = table_of_node c.args.node in
    let top = stack_top t (roots_of c.args.node) c.loop-stack.known c.loop-stack.last _ c.loop-stack.invariant.stack in
    let on : IsWentOn t c.go_on.new.known c.loop-stack.last c.go_on.new.frame c.in-Some-2.above = rw top.frame.table at (rw c.in-Some-2.is at c.in_ok-above.ensures.open) in
    fewer_pushed t c.loop-stack.stack.items c.push.new.self.items c.loop-stack.last c.go_on.new.frame c.in-Some-2.above c.in_ok-push-in-Some-2.ensures.items on.steps

pub loop-stack-preserved-in-Some-2 : goal.loop-stack-preserved-in-Some-2
loop-stack-preserved-in-Some-2 c =
    let t = table_of_node c.args.node in
    let root = roots_of c.args.node in
    let last = c.loop-stack.last in
    let top = stack_top t root c.loop-stack.known last _ c.loop-stack.invariant.stack in
    let on : IsWentOn t c.go_on.new.known last c.go_on.new.frame c.in-Some-2.above = rw top.frame.table at (rw c.in-Some-2.is at c.in_ok-above.ensures.open) in
    let g : Grows t (λ nodes. HasMessage t nodes (roots_of last.node)) c.loop-stack.known c.go_on.new.known = rw top.frame.table at c.go_on.ensures.grows in
    record {
      known = rw top.frame.table at c.go_on.ensures.known;
      grows = turn_grows t root (roots_of last.node) _ c.loop-stack.known c.go_on.new.known top.reached c.loop-stack.invariant.grows g;
      stack = one_pushed t _ root c.loop-stack.known c.go_on.new.known c.loop-stack.stack.items c.push.new.self.items last c.go_on.new.frame c.in-Some-2.above c.in_ok-push-in-Some-2.ensures.items c.loop-stack.invariant.stack g on;
    }

-- ---- it is done, and one waits for it

pub loop-stack-preserved : goal.loop-stack-preserved
loop-stack-preserved c =
    let t = table_of_node c.args.node in
    let root = roots_of c.args.node in
    let last = c.loop-stack.last in
    let top = stack_top t root c.loop-stack.known last _ c.loop-stack.invariant.stack in
    let known : IsTrueOf t c.go_on.new.known = rw top.frame.table at c.go_on.ensures.known in
    let g : Grows t (λ nodes. HasMessage t nodes (roots_of last.node)) c.loop-stack.known c.go_on.new.known = rw top.frame.table at c.go_on.ensures.grows in
    let done = rw c.in-None.is at c.in_ok-above.ensures.done in
    let left = stack_popped t _ root c.loop-stack.known c.go_on.new.known last _ c.loop-stack.invariant.stack g known done.0 done.1 in
    record {
      known = known;
      grows = turn_grows t root (roots_of last.node) _ c.loop-stack.known c.go_on.new.known top.reached c.loop-stack.invariant.grows g;
      stack = one_popped t root c.go_on.new.known c.loop-stack.stack.items c.pop.new.self.items c.in-Some-pop.below c.in-Some-pop.ensures.items left;
    }

-- ---- it is done, and none waits for it

pub returns-in-None-pop-clause-known : goal.returns-in-None-pop-clause-known
returns-in-None-pop-clause-known c =
    let top = stack_top (table_of_node c.args.node) (roots_of c.args.node) c.loop-stack.known c.loop-stack.last _ c.loop-stack.invariant.stack in
    rw top.frame.table at c.go_on.ensures.known

pub returns-in-None-pop-clause-grows : goal.returns-in-None-pop-clause-grows
returns-in-None-pop-clause-grows c =
    let t = table_of_node c.args.node in
    let top = stack_top t (roots_of c.args.node) c.loop-stack.known c.loop-stack.last _ c.loop-stack.invariant.stack in
    turn_grows t (roots_of c.args.node) (roots_of c.loop-stack.last.node) _ c.loop-stack.known c.go_on.new.known top.reached c.loop-stack.invariant.grows (rw top.frame.table at c.go_on.ensures.grows)

pub returns-in-None-pop-clause-there : goal.returns-in-None-pop-clause-there
returns-in-None-pop-clause-there c =
    let t = table_of_node c.args.node in
    let root = roots_of c.args.node in
    let last = c.loop-stack.last in
    let top = stack_top t root c.loop-stack.known last _ c.loop-stack.invariant.stack in
    let known : IsTrueOf t c.go_on.new.known = rw top.frame.table at c.go_on.ensures.known in
    let g : Grows t (λ nodes. HasMessage t nodes (roots_of last.node)) c.loop-stack.known c.go_on.new.known = rw top.frame.table at c.go_on.ensures.grows in
    let done = rw c.in-None.is at c.in_ok-above.ensures.done in
    let left = stack_popped t _ root c.loop-stack.known c.go_on.new.known last _ c.loop-stack.invariant.stack g known done.0 done.1 in
    let none : c.loop-stack.stack.items ≡ [] = nil_from_length c.loop-stack.stack.items (omega (arith, c.in-None-pop.ensures.cases, c.loop-stack.stack.ok)) in
    none_waits t root c.go_on.new.known c.loop-stack.stack.items none left

pub returns-in-None-pop-clause-exact : goal.returns-in-None-pop-clause-exact
returns-in-None-pop-clause-exact c =
    let t = table_of_node c.args.node in
    let root = roots_of c.args.node in
    let last = c.loop-stack.last in
    let top = stack_top t root c.loop-stack.known last _ c.loop-stack.invariant.stack in
    let known : IsTrueOf t c.go_on.new.known = rw top.frame.table at c.go_on.ensures.known in
    let g : Grows t (λ nodes. HasMessage t nodes (roots_of last.node)) c.loop-stack.known c.go_on.new.known = rw top.frame.table at c.go_on.ensures.grows in
    let done = rw c.in-None.is at c.in_ok-above.ensures.done in
    let left = stack_popped t _ root c.loop-stack.known c.go_on.new.known last _ c.loop-stack.invariant.stack g known done.0 done.1 in
    let none : c.loop-stack.stack.items ≡ [] = nil_from_length c.loop-stack.stack.items (omega (arith, c.in-None-pop.ensures.cases, c.loop-stack.stack.ok)) in
    let whole : WholeIn c.go_on.new.known.messages root = none_waits t root c.go_on.new.known c.loop-stack.stack.items none left in
    (known.messages root whole c.args.node.subs, refl)
