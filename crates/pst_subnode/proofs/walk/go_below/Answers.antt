use Rattle.std.proofs.Common.{◌≡◌, ◌+◌, ◌<◌, Ok, Err, arith, refl, ap, ◌∙◌, inl, inr}
use Rattle.std.specs.Prelude.{reverse}
use Rattle.pst_subnode.specs.declared.frame.Turn.TheVariants.{Expands, Answers}
use Rattle.pst_subnode.specs.Stack.{IsAnswered, IsOpened, IsRefused}
use Rattle.pst_subnode.specs.Weight.{frame_weight, stack_weight}
use Rattle.pst_fault.specs.Fault.{no_memory}
use Rattle.pst_subnode.proofs.WeightLemmas.{stack_pushed, frame_same}
use Rattle.pst_subnode.proofs.StackLemmas.{below_answered, opened_below, both_given_up, below_given_up}
use Rattle.pst_subnode.proofs.walk.go_below.Goals as goal

-- what is known of the list below counts at once
pub returns-in-Answers-clause-next : goal.returns-in-Answers-clause-next
returns-in-Answers-clause-next c = λ t a bid limit s h waits enters.
    let is : c.args.entered ≡ Ok (Answers c.in-Answers.height) = c.in-Ok.is ∙ ap Ok c.in-Answers.is in
    let answered : IsAnswered t bid limit c.in-Answers.height s h s c.args.heights.now = (rw is at enters) in
    let on = c.with_height.ensures in
    below_answered t a c.args.stack.now.items c.args.frame c.with_height.result bid limit c.in-Answers.height s h s c.args.heights.now waits answered on.bid on.limit on.most on.below

pub returns-in-Answers-clause-falls : goal.returns-in-Answers-clause-falls
returns-in-Answers-clause-falls c = λ unit light.
    let is : c.args.entered ≡ Ok (Answers c.in-Answers.height) = c.in-Ok.is ∙ ap Ok c.in-Answers.is in
    let less : 1 < unit = (rw is at light) in
    let same : frame_weight c.with_height.result ≡ frame_weight c.args.frame = frame_same c.args.frame c.with_height.result c.with_height.ensures.limit c.with_height.ensures.below in
    omega (arith, less, same)

-- it was opened
pub returns-in_default-clause-next : goal.returns-in_default-clause-next
returns-in_default-clause-next c = λ t a bid limit s h waits enters.
    let is : c.args.entered ≡ Ok (Expands c.in-Expands.opened) = c.in-Ok.is ∙ ap Ok c.in-Expands.is in
    let opened : IsOpened t bid limit c.in-Expands.opened s h c.args.heights.now = (rw is at enters) in
    rw c.in_default.ensures.items (opened_below t a c.args.stack.now.items c.args.frame c.in-Expands.opened bid limit s h c.args.heights.now waits opened)

pub returns-in_default-clause-falls : goal.returns-in_default-clause-falls
returns-in_default-clause-falls c = λ unit light.
    let is : c.args.entered ≡ Ok (Expands c.in-Expands.opened) = c.in-Ok.is ∙ ap Ok c.in-Expands.is in
    let less : frame_weight c.in-Expands.opened < unit = (rw is at light) in
    let pushed : stack_weight (reverse c.push.new.self.items) ≡ frame_weight c.args.frame + stack_weight (reverse c.args.stack.now.items) = rw c.in_default.ensures.items (stack_pushed c.args.stack.now.items c.args.frame) in
    omega (arith, less, pushed)

-- no memory is left for the stack
pub returns-in-Err-push-clause-next : goal.returns-in-Err-push-clause-next
returns-in-Err-push-clause-next c = λ t a bid limit s h waits enters.
    let is : c.args.entered ≡ Ok (Expands c.in-Expands.opened) = c.in-Ok.is ∙ ap Ok c.in-Expands.is in
    let opened : IsOpened t bid limit c.in-Expands.opened s h c.args.heights.now = (rw is at enters) in
    let first = c.forget.ensures in
    let second = c.forget-in-Err-push.ensures in
    rw (c.in-Err-push.ensures.items, c.from.ensures) (both_given_up t a c.args.stack.now.items c.args.frame c.in-Expands.opened no_memory bid limit s h c.args.heights.now c.forget.new.self c.forget-in-Err-push.new.self waits opened refl first.put first.ranges (omega (arith, first.counts)) second.put second.ranges (omega (arith, second.counts)))

pub returns-in-Err-push-clause-exact : goal.returns-in-Err-push-clause-exact
returns-in-Err-push-clause-exact c = λ t bid limit s h waiting enters. inl c.from.ensures

-- it has a fault
pub returns-in-Err-clause-next : goal.returns-in-Err-clause-next
returns-in-Err-clause-next c = λ t a bid limit s h waits enters.
    let is : c.args.entered ≡ Err c.in-Err.fault = c.in-Err.is in
    let refused : IsRefused t bid limit c.in-Err.fault s h s c.args.heights.now = (rw is at enters) in
    let put = c.forget-in-Err.ensures in
    below_given_up t a c.args.stack.now.items c.args.frame c.in-Err.fault bid limit s h s c.args.heights.now c.forget-in-Err.new.self waits refused put.put put.ranges (omega (arith, put.counts))

pub returns-in-Err-clause-exact : goal.returns-in-Err-clause-exact
returns-in-Err-clause-exact c = λ t bid limit s h waiting enters.
    let refused : IsRefused t bid limit c.in-Err.fault s h s c.args.heights.now = (rw c.in-Err.is at enters) in
    elim refused.exact [ inl memory ↦ inl memory | inr is ↦ inr (waiting.refuses c.in-Err.fault is) ]
