use Rattle.std.proofs.Common.{◌≡◌, ◌+◌, ◌-◌, ◌*◌, ◌<◌, ◌≤◌, max, arith, refl, ap, inl, inr}
use Rattle.std.specs.Prelude.{reverse}
use Rattle.std.proofs.lemmas.Result.{err_from_is_err_and, IfOk-weaker}
use Rattle.pst_block.specs.Blocks.{table_of}
use Rattle.pst_subnode.specs.declared.frame.Below.TheVariants.{Entries}
use Rattle.pst_subnode.specs.Marks.{rank_of}
use Rattle.pst_subnode.specs.Stack.{IsAnswered}
use Rattle.pst_subnode.specs.Weight.{stack_weight, unit_weight, below_rank}
use Rattle.pst_subnode.proofs.ExpandLemmas.{entry_come, data_refuses, entries_end, entries_known}
use Rattle.pst_subnode.proofs.WeightLemmas.{frame_least, entry_taken, unit_rises}
use Rattle.pst_subnode.proofs.StackLemmas.{IsChecked, settled, own_given_up, data_given_up, entry_waits}
use Rattle.pst_subnode.proofs.PassLemmas.{left_of, entry_passed}
use Rattle.pst_subnode.proofs.walk.run_entries.Goals as goal

pub check_entry_data-requires-clause-seen : goal.check_entry_data-requires-clause-seen
check_entry_data-requires-clause-seen c = (c.loop-sub.invariant.goes c.requires.at.0 c.requires.at.1).since.walked.trees

pub returns-in-Err-clause-next : goal.returns-in-Err-clause-next
returns-in-Err-clause-next c = λ a up.
    let t = table_of c.args.blocks.now in
    let f = c.args.frame in
    let now = c.loop-sub.invariant.goes a up in
    let own = c.in-Err.ensures in
    let checked : IsChecked t c.in-Some.sub c.loop-sub.seen c.check_entry_data.new.seen = record { trees = own.seen; adds = own.adds; grows = own.grows } in
    let put = c.forget.ensures in
    rw c.loop-sub.invariant.same (data_given_up t a c.args.stack.now.items (left_of f c.loop-sub.most (Entries c.loop-sub.rest)) c.loop-sub.rest c.next.new.self c.in-Some.sub c.in-Err.fault c.loop-sub.seen c.check_entry_data.new.seen c.loop-sub.heights c.forget.new.self now refl c.in-Some.ensures.steps checked own.exact put.put put.ranges (omega (arith, put.counts)))

pub returns-in-Err-clause-exact : goal.returns-in-Err-clause-exact
returns-in-Err-clause-exact c =
    let t = table_of c.args.blocks.now in
    let f = c.args.frame in
    let now = c.loop-sub.invariant.goes c.requires.at.0 c.requires.at.1 in
    elim c.in-Err.ensures.exact [
      | inl memory ↦ inl memory
      | inr is ↦ inr (data_refuses t f.bid f.limit c.loop-sub.most c.loop-sub.rest c.next.new.self c.in-Some.sub c.loop-sub.seen c.loop-sub.heights c.in-Err.fault now.left c.in-Some.ensures.steps is)
    ]

pub enter-entered-requires-clause-known : goal.enter-entered-requires-clause-known
enter-entered-requires-clause-known c = (c.loop-sub.invariant.goes c.requires.at.0 c.requires.at.1).since.walked.lists

pub enter-entered-requires-clause-come : goal.enter-entered-requires-clause-come
enter-entered-requires-clause-come c =
    let t = table_of c.args.blocks.now in
    let f = c.args.frame in
    let now = c.loop-sub.invariant.goes c.requires.at.0 c.requires.at.1 in
    let own = c.in_default-check_entry_data.ensures in
    entry_come t f.bid f.limit c.loop-sub.most c.loop-sub.rest c.next.new.self c.in-Some.sub c.loop-sub.seen c.check_entry_data.new.seen c.loop-sub.heights now.left c.in-Some.ensures.steps own.exact.0

pub returns-in_default-known_height-clause-next : goal.returns-in_default-known_height-clause-next
returns-in_default-known_height-clause-next c = λ a up.
    let t = table_of c.args.blocks.now in
    let f = c.args.frame in
    let own = c.in_default-check_entry_data.ensures in
    let checked : IsChecked t c.in-Some.sub c.loop-sub.seen c.check_entry_data.new.seen = record { trees = own.seen; adds = own.adds; grows = own.grows } in
    let waits = entry_waits t a c.args.stack.now.items (left_of f c.loop-sub.most (Entries c.loop-sub.rest)) c.loop-sub.rest c.next.new.self c.in-Some.sub c.loop-sub.seen c.check_entry_data.new.seen c.loop-sub.heights (c.loop-sub.invariant.goes a up) refl c.in-Some.ensures.steps checked own.exact.0 own.there own.counts in
    c.go_below.ensures.next t a c.in-Some.sub.bid_sub (f.limit - 1) c.check_entry_data.new.seen c.loop-sub.heights (rw (c.left_with-waits.ensures, c.loop-sub.invariant.same) waits) (c.enter-entered.ensures.enters c.check_entry_data.new.seen own.seen)

pub returns-in_default-known_height-clause-falls : goal.returns-in_default-known_height-clause-falls
returns-in_default-known_height-clause-falls c =
    let t = table_of c.args.blocks.now in
    let f = c.args.frame in
    let own = c.in_default-check_entry_data.ensures in
    let checked : IsChecked t c.in-Some.sub c.loop-sub.seen c.check_entry_data.new.seen = record { trees = own.seen; adds = own.adds; grows = own.grows } in
    let waits = entry_waits t c.requires.at.0 c.args.stack.now.items (left_of f c.loop-sub.most (Entries c.loop-sub.rest)) c.loop-sub.rest c.next.new.self c.in-Some.sub c.loop-sub.seen c.check_entry_data.new.seen c.loop-sub.heights (c.loop-sub.invariant.goes c.requires.at.0 c.requires.at.1) refl c.in-Some.ensures.steps checked own.exact.0 own.there own.counts in
    let w = c.left_with-waits.result in
    let below : w.below ≡ Entries c.next.new.self = rw c.left_with-waits.ensures refl in
    let limit : w.limit ≡ f.limit = rw c.left_with-waits.ensures refl in
    let rank : below_rank w.limit w.below ≡ 2 * f.limit = rw (below, limit) refl in
    let taken = entry_taken (left_of f c.loop-sub.most (Entries c.loop-sub.rest)) w c.loop-sub.rest c.next.new.self c.in-Some.sub refl below limit c.in-Some.ensures.steps in
    let rises : unit_weight (2 * (f.limit - 1) + rank_of t c.in-Some.sub.bid_sub + 1) ≤ unit_weight (2 * f.limit) = unit_rises _ _ (omega (arith, waits.4.lower)) in
    let same : stack_weight (reverse c.loop-sub.stack.items) ≡ stack_weight (reverse c.args.stack.now.items) = ap (λ xs. stack_weight (reverse xs)) c.loop-sub.invariant.same in
    let light = c.go_below.ensures.falls (unit_weight (2 * f.limit)) (IfOk-weaker c.enter-entered.result _ _ (λ turn less. omega (arith, rises, less)) c.enter-entered.ensures.light) in
    IfOk-weaker c.go_below.result _ _ (λ turn less. omega (arith, rw rank at taken, same, c.loop-sub.invariant.light, less)) light

pub returns-in_default-known_height-clause-exact : goal.returns-in_default-known_height-clause-exact
returns-in_default-known_height-clause-exact c =
    let t = table_of c.args.blocks.now in
    let f = c.args.frame in
    let own = c.in_default-check_entry_data.ensures in
    let checked : IsChecked t c.in-Some.sub c.loop-sub.seen c.check_entry_data.new.seen = record { trees = own.seen; adds = own.adds; grows = own.grows } in
    let waits = entry_waits t c.requires.at.0 c.args.stack.now.items (left_of f c.loop-sub.most (Entries c.loop-sub.rest)) c.loop-sub.rest c.next.new.self c.in-Some.sub c.loop-sub.seen c.check_entry_data.new.seen c.loop-sub.heights (c.loop-sub.invariant.goes c.requires.at.0 c.requires.at.1) refl c.in-Some.ensures.steps checked own.exact.0 own.there own.counts in
    let told = c.go_below.ensures.exact t c.in-Some.sub.bid_sub (f.limit - 1) c.check_entry_data.new.seen c.loop-sub.heights (rw c.left_with-waits.ensures waits.4) (c.enter-entered.ensures.enters c.check_entry_data.new.seen own.seen) in
    (rw c.left_with-waits.ensures at told)

pub loop-sub-preserved : goal.loop-sub-preserved
loop-sub-preserved c =
    let t = table_of c.args.blocks.now in
    let f = c.args.frame in
    let sub = c.in-Some.sub in
    let own = c.in_default-check_entry_data.ensures in
    let checked : IsChecked t sub c.loop-sub.seen c.check_entry_data.new.seen = record { trees = own.seen; adds = own.adds; grows = own.grows } in
    let most : c.max-most.result ≡ max c.loop-sub.most c.in-Some-known_height.height = c.max-most.ensures in
    let taken = entry_taken (left_of f c.loop-sub.most (Entries c.loop-sub.rest)) (left_of f c.max-most.result (Entries c.next.new.self)) c.loop-sub.rest c.next.new.self sub refl refl refl c.in-Some.ensures.steps in
    record {
      same = c.loop-sub.invariant.same;
      faults = c.enter-entered.ensures.faults;
      goes = λ a up.
          let answered : IsAnswered t sub.bid_sub (f.limit - 1) c.in-Some-known_height.height c.check_entry_data.new.seen c.loop-sub.heights c.check_entry_data.new.seen c.enter-entered.new.heights = (rw c.in-Some-known_height.ensures.known at (c.enter-entered.ensures.enters c.check_entry_data.new.seen own.seen)) in
          rw most (entry_passed t a c.args.stack.now.items f c.loop-sub.rest c.next.new.self sub c.loop-sub.most c.in-Some-known_height.height c.loop-sub.seen c.check_entry_data.new.seen c.loop-sub.heights c.enter-entered.new.heights (c.loop-sub.invariant.goes a up) c.in-Some.ensures.steps checked own.exact.0 own.there own.counts answered);
      light = omega (arith, taken, c.loop-sub.invariant.light);
    }

pub overflow_add-most : goal.overflow_add-most
overflow_add-most c =
    let now = c.loop-sub.invariant.goes c.requires.at.0 c.requires.at.1 in
    let small : c.loop-sub.most < c.args.frame.limit = now.left.small in
    omega (arith, small)

pub overflow_add-result : goal.overflow_add-result
overflow_add-result c =
    let now = c.loop-sub.invariant.goes c.requires.at.0 c.requires.at.1 in
    let small : c.loop-sub.most < c.args.frame.limit = now.left.small in
    omega (arith, small)

pub returns-in_err-settle-clause-next : goal.returns-in_err-settle-clause-next
returns-in_err-settle-clause-next c = λ a up.
    let p = err_from_is_err_and c.from_residual.result c.from_residual.ensures.1 in
    let now = c.loop-sub.invariant.goes a up in
    let put = c.in_err-settle.ensures in
    rw (p.1, p.2, c.loop-sub.invariant.same) (own_given_up (table_of c.args.blocks.now) a c.args.stack.now.items c.args.frame _ now.seen now.heights c.loop-sub.seen c.loop-sub.heights c.settle.new.self now.waits now.since (inl put.memory) put.forgotten put.ranges put.grows)

pub returns-in_err-settle-clause-exact : goal.returns-in_err-settle-clause-exact
returns-in_err-settle-clause-exact c =
    let p = err_from_is_err_and c.from_residual.result c.from_residual.ensures.1 in
    rw (p.1, p.2) (inl c.in_err-settle.ensures.memory)

pub returns-clause-next : goal.returns-clause-next
returns-clause-next c = λ a up.
    let t = table_of c.args.blocks.now in
    let f = c.args.frame in
    let now = c.loop-sub.invariant.goes a up in
    let most = c.loop-sub.most in
    let rest = c.loop-sub.rest in
    let end = c.in_default.ensures.steps.0 in
    let put = c.in_ok-settle.ensures in
    rw c.loop-sub.invariant.same (settled t a c.args.stack.now.items (left_of f most (Entries rest)) (most + 1) c.loop-sub.seen c.loop-sub.heights c.settle.new.self now (omega arith) (entries_end t f.bid f.limit most rest c.loop-sub.seen c.loop-sub.heights now.left end) (entries_known t f.bid f.limit most rest c.loop-sub.seen c.loop-sub.heights now.left end) put.put put.ranges put.grows put.keeps)

pub returns-clause-falls : goal.returns-clause-falls
returns-clause-falls c = rw c.loop-sub.invariant.same (omega (arith, frame_least c.args.frame))

pub loop-sub-init : goal.loop-sub-init
loop-sub-init c = record {
  faults = c.requires.faults;
  same = refl;
  goes = λ a up. rw (← c.requires.below) up;
  light = rw (← c.requires.below) (omega arith);
}
