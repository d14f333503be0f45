use Rattle.std.proofs.Common.{◌≡◌, ◌+◌, ◌<◌, ◌∷◌, [], ◌++◌, Ok, Err, arith, ap}
use Rattle.std.specs.Prelude.{reverse}
use Rattle.std.proofs.lemmas.Result.{err_from_is_err_and}
use Rattle.pst_block.specs.Blocks.{table_of}
use Rattle.pst_subnode.specs.declared.frame.Turn.TheVariants.{Expands}
use Rattle.pst_subnode.specs.Stack.{Start, IsAnswering}
use Rattle.pst_subnode.specs.Weight.{frame_weight, stack_weight, turn_weight, walk_weight}
use Rattle.pst_subnode.proofs.ExpandLemmas.{come_rank}
use Rattle.pst_subnode.proofs.StackLemmas.{starts, entered, resumed}
use Rattle.pst_subnode.proofs.WeightLemmas.{stack_pushed, frame_same}
use Rattle.pst_subnode.proofs.walk.climb.Goals as goal

pub enter-requires-clause-come : goal.enter-requires-clause-come
enter-requires-clause-come c = come_rank (table_of c.args.blocks.now) c.args.heights.now c.args.bid c.args.limit c.requires.begun.come

pub returns-in_err-turn-clause-ends : goal.returns-in_err-turn-clause-ends
returns-in_err-turn-clause-ends c =
    let p = err_from_is_err_and c.from_residual.result c.from_residual.ensures.1 in
    let t = table_of c.args.blocks.now in
    let start : Start = record { bid = c.args.bid; limit = c.args.limit; seen = c.args.seen.now; heights = c.args.heights.now } in
    rw (p.1, p.2) (entered t start c.args.stack.now.items c.args.bid c.args.limit c.args.seen.now c.args.heights.now c.enter.new.heights (Err c.in_err-turn.field-0.0) (starts t start c.args.stack.now.items c.requires.empty) (c.in_err-turn.ensures.enters c.args.seen.now c.requires.begun.trees))

pub loop-turn-init : goal.loop-turn-init
loop-turn-init c =
    let t = table_of c.args.blocks.now in
    let start : Start = record { bid = c.args.bid; limit = c.args.limit; seen = c.args.seen.now; heights = c.args.heights.now } in
    record { faults = c.enter.ensures.faults; turn = entered t start c.args.stack.now.items c.args.bid c.args.limit c.args.seen.now c.args.heights.now c.enter.new.heights (Ok c.in_ok-turn.turn) (starts t start c.args.stack.now.items c.requires.empty) (c.in_ok-turn.ensures.enters c.args.seen.now c.requires.begun.trees) }

pub run-requires-clause-at : goal.run-requires-clause-at
run-requires-clause-at c =
    let start : Start = record { bid = c.args.bid; limit = c.args.limit; seen = c.args.seen.now; heights = c.args.heights.now } in
    (start, rw c.in-Expands.is at c.loop-turn.invariant.turn)

pub loop-turn-smaller : goal.loop-turn-smaller
loop-turn-smaller c =
    let pushed : stack_weight (reverse c.loop-turn.stack.items) ≡ frame_weight c.in-Some.frame + stack_weight (reverse c.pop.new.self.items) = rw c.in-Some.ensures.items (stack_pushed c.pop.new.self.items c.in-Some.frame) in
    let same : frame_weight c.with_height.result ≡ frame_weight c.in-Some.frame = frame_same c.in-Some.frame c.with_height.result c.with_height.ensures.limit c.with_height.ensures.below in
    let one : turn_weight c.loop-turn.turn ≡ 1 = ap turn_weight c.in-Answers.is in
    let less : walk_weight c.pop.new.self.items (Expands c.with_height.result) < walk_weight c.loop-turn.stack.items c.loop-turn.turn = omega (arith, pushed, same, one) in
    less

pub loop-turn-preserved : goal.loop-turn-preserved
loop-turn-preserved c =
    let t = table_of c.args.blocks.now in
    let start : Start = record { bid = c.args.bid; limit = c.args.limit; seen = c.args.seen.now; heights = c.args.heights.now } in
    let answered : IsAnswering t start c.loop-turn.stack.items c.in-Answers.height c.loop-turn.seen c.loop-turn.heights = (rw c.in-Answers.is at c.loop-turn.invariant.turn) in
    let up : IsAnswering t start (c.pop.new.self.items ++ (c.in-Some.frame ∷ [])) c.in-Answers.height c.loop-turn.seen c.loop-turn.heights = (rw c.in-Some.ensures.items at answered) in
    let on = c.with_height.ensures in
    record { faults = c.loop-turn.invariant.faults; turn = resumed t start c.pop.new.self.items c.in-Some.frame c.with_height.result c.in-Answers.height c.loop-turn.seen c.loop-turn.heights up on.bid on.limit on.most on.below }
