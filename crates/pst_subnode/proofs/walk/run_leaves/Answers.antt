use Rattle.std.proofs.Common.{◌≡◌, ◌+◌, ◌*◌, max, arith, refl, ap, ◌∙◌, inl}
use Rattle.std.specs.Prelude.{reverse}
use Rattle.std.proofs.lemmas.Result.{err_from_is_err_and, IfOk-weaker}
use Rattle.pst_block.specs.Blocks.{table_of}
use Rattle.pst_block.specs.Table.{body_of}
use Rattle.pst_subnode.specs.declared.frame.Below.TheVariants.{Leaves}
use Rattle.pst_subnode.specs.Body.{leaf_bid_in}
use Rattle.pst_subnode.specs.Stack.{IsAnswered}
use Rattle.pst_subnode.specs.Weight.{stack_weight, unit_weight, below_rank}
use Rattle.pst_subnode.proofs.LeafLemmas.{leaf_list}
use Rattle.pst_subnode.proofs.ExpandLemmas.{leaf_come, leaf_rank, leaves_end, leaves_known, leaves_most, leaves_fit}
use Rattle.pst_subnode.proofs.WeightLemmas.{frame_least, leaf_taken}
use Rattle.pst_subnode.proofs.StackLemmas.{settled, own_given_up, leaf_waits}
use Rattle.pst_subnode.proofs.PassLemmas.{left_of, leaf_passed}
use Rattle.pst_subnode.proofs.walk.run_leaves.Goals as goal

pub body_in-requires : goal.body_in-requires
body_in-requires c = (c.loop-rest.invariant.goes c.requires.at.0 c.requires.at.1).left.holder

pub bid_at-bid-requires : goal.bid_at-bid-requires
bid_at-bid-requires c =
    let t = table_of c.args.blocks.now in
    let f = c.args.frame in
    let now = c.loop-rest.invariant.goes c.requires.at.0 c.requires.at.1 in
    rw c.body_in.ensures (leaves_fit t f.bid f.limit c.loop-rest.most c.loop-rest.rest c.loop-rest.heights now.left c.loop-rest-test.true)

pub enter_leaf-entered-requires-clause-is_list : goal.enter_leaf-entered-requires-clause-is_list
enter_leaf-entered-requires-clause-is_list c =
    let t = table_of c.args.blocks.now in
    let f = c.args.frame in
    let now = c.loop-rest.invariant.goes c.requires.at.0 c.requires.at.1 in
    let same : c.bid_at-bid.result ≡ leaf_bid_in (body_of t c.loop-rest.rest.holder) c.loop-rest.rest.next = c.bid_at-bid.ensures ∙ ap (λ b. leaf_bid_in b c.loop-rest.rest.next) c.body_in.ensures in
    let leaf = leaf_list t f.bid c.loop-rest.rest.holder c.loop-rest.rest.next now.left.is (omega (arith, c.loop-rest-test.true, now.left.count)) in
    rw same (record { is_list = leaf.is_list; rank = leaf.rank })

pub enter_leaf-entered-requires-clause-known : goal.enter_leaf-entered-requires-clause-known
enter_leaf-entered-requires-clause-known c = (c.loop-rest.invariant.goes c.requires.at.0 c.requires.at.1).since.walked.lists

pub enter_leaf-entered-requires-clause-come : goal.enter_leaf-entered-requires-clause-come
enter_leaf-entered-requires-clause-come c =
    let t = table_of c.args.blocks.now in
    let f = c.args.frame in
    let now = c.loop-rest.invariant.goes c.requires.at.0 c.requires.at.1 in
    let same : c.bid_at-bid.result ≡ leaf_bid_in (body_of t c.loop-rest.rest.holder) c.loop-rest.rest.next = c.bid_at-bid.ensures ∙ ap (λ b. leaf_bid_in b c.loop-rest.rest.next) c.body_in.ensures in
    let rank = leaf_rank t f.bid f.limit c.loop-rest.most c.loop-rest.rest c.loop-rest.heights now.left c.loop-rest-test.true in
    let come = leaf_come t f.bid f.limit c.loop-rest.most c.loop-rest.rest c.loop-rest.heights now.left c.loop-rest-test.true in
    rw same (rw rank at come)

pub returns-in_default-clause-next : goal.returns-in_default-clause-next
returns-in_default-clause-next c = λ a up.
    let t = table_of c.args.blocks.now in
    let f = c.args.frame in
    let same : c.bid_at-bid.result ≡ leaf_bid_in (body_of t c.loop-rest.rest.holder) c.loop-rest.rest.next = c.bid_at-bid.ensures ∙ ap (λ b. leaf_bid_in b c.loop-rest.rest.next) c.body_in.ensures in
    let waits = leaf_waits t a c.args.stack.now.items (left_of f c.loop-rest.most (Leaves c.loop-rest.rest)) c.loop-rest.rest c.args.seen.now c.loop-rest.heights (c.loop-rest.invariant.goes a up) refl c.loop-rest-test.true in
    c.go_below.ensures.next t a c.bid_at-bid.result f.limit c.args.seen.now c.loop-rest.heights (rw (c.left_with-waits.ensures, c.behind-rest.ensures, same, c.loop-rest.invariant.same) waits) (c.enter_leaf-entered.ensures.enters c.args.seen.now up.since.walked.trees)

pub returns-in_default-clause-falls : goal.returns-in_default-clause-falls
returns-in_default-clause-falls c =
    let f = c.args.frame in
    let w = c.left_with-waits.result in
    let below : w.below ≡ Leaves c.behind-rest.result = rw c.left_with-waits.ensures refl in
    let limit : w.limit ≡ f.limit = rw c.left_with-waits.ensures refl in
    let next : c.behind-rest.result.next ≡ c.loop-rest.rest.next + 1 = rw c.behind-rest.ensures refl in
    let count : c.behind-rest.result.count ≡ c.loop-rest.rest.count = rw c.behind-rest.ensures refl in
    let rank : below_rank w.limit w.below ≡ 2 * f.limit + 1 = rw (below, limit) refl in
    let taken = leaf_taken (left_of f c.loop-rest.most (Leaves c.loop-rest.rest)) w c.loop-rest.rest c.behind-rest.result refl below limit next count c.loop-rest-test.true in
    let same : stack_weight (reverse c.loop-rest.stack.items) ≡ stack_weight (reverse c.args.stack.now.items) = ap (λ xs. stack_weight (reverse xs)) c.loop-rest.invariant.same in
    let light = c.go_below.ensures.falls (unit_weight (2 * f.limit + 1)) c.enter_leaf-entered.ensures.light in
    IfOk-weaker c.go_below.result _ _ (λ turn less. omega (arith, rw rank at taken, same, c.loop-rest.invariant.light, less)) light

pub returns-in_default-clause-exact : goal.returns-in_default-clause-exact
returns-in_default-clause-exact c =
    let t = table_of c.args.blocks.now in
    let f = c.args.frame in
    let now = c.loop-rest.invariant.goes c.requires.at.0 c.requires.at.1 in
    let same : c.bid_at-bid.result ≡ leaf_bid_in (body_of t c.loop-rest.rest.holder) c.loop-rest.rest.next = c.bid_at-bid.ensures ∙ ap (λ b. leaf_bid_in b c.loop-rest.rest.next) c.body_in.ensures in
    let waits = leaf_waits t c.requires.at.0 c.args.stack.now.items (left_of f c.loop-rest.most (Leaves c.loop-rest.rest)) c.loop-rest.rest c.args.seen.now c.loop-rest.heights now refl c.loop-rest-test.true in
    let told = c.go_below.ensures.exact t c.bid_at-bid.result f.limit c.args.seen.now c.loop-rest.heights (rw (c.left_with-waits.ensures, c.behind-rest.ensures, same) waits.4) (c.enter_leaf-entered.ensures.enters c.args.seen.now now.since.walked.trees) in
    (rw c.left_with-waits.ensures at told)

pub loop-rest-preserved : goal.loop-rest-preserved
loop-rest-preserved c =
    let t = table_of c.args.blocks.now in
    let f = c.args.frame in
    let same : c.bid_at-bid.result ≡ leaf_bid_in (body_of t c.loop-rest.rest.holder) c.loop-rest.rest.next = c.bid_at-bid.ensures ∙ ap (λ b. leaf_bid_in b c.loop-rest.rest.next) c.body_in.ensures in
    let height = c.in-Some.height in
    let most : c.max-most.result ≡ max c.loop-rest.most height = c.max-most.ensures in
    let next : c.behind-rest.result.next ≡ c.loop-rest.rest.next + 1 = rw c.behind-rest.ensures refl in
    let count : c.behind-rest.result.count ≡ c.loop-rest.rest.count = rw c.behind-rest.ensures refl in
    let taken = leaf_taken (left_of f c.loop-rest.most (Leaves c.loop-rest.rest)) (left_of f c.max-most.result (Leaves c.behind-rest.result)) c.loop-rest.rest c.behind-rest.result refl refl refl next count c.loop-rest-test.true in
    record {
      same = c.loop-rest.invariant.same;
      goes = λ a up.
          let answered : IsAnswered t c.bid_at-bid.result f.limit height c.args.seen.now c.loop-rest.heights c.args.seen.now c.enter_leaf-entered.new.heights = (rw c.in-Some.ensures.known at (c.enter_leaf-entered.ensures.enters c.args.seen.now up.since.walked.trees)) in
          rw (most, c.behind-rest.ensures) (leaf_passed t a c.args.stack.now.items f c.loop-rest.rest c.loop-rest.most height c.args.seen.now c.loop-rest.heights c.enter_leaf-entered.new.heights (c.loop-rest.invariant.goes a up) c.loop-rest-test.true (rw same at answered));
      light = omega (arith, taken, c.loop-rest.invariant.light);
    }

pub returns-in_err-settle-clause-next : goal.returns-in_err-settle-clause-next
returns-in_err-settle-clause-next c = λ a up.
    let p = err_from_is_err_and c.from_residual.result c.from_residual.ensures.1 in
    let now = c.loop-rest.invariant.goes a up in
    let put = c.in_err-settle.ensures in
    rw (p.1, p.2, c.loop-rest.invariant.same) (own_given_up (table_of c.args.blocks.now) a c.args.stack.now.items c.args.frame _ now.seen now.heights c.args.seen.now c.loop-rest.heights c.settle.new.self now.waits now.since (inl put.memory) put.forgotten put.ranges put.grows)

pub returns-in_err-settle-clause-exact : goal.returns-in_err-settle-clause-exact
returns-in_err-settle-clause-exact c =
    let p = err_from_is_err_and c.from_residual.result c.from_residual.ensures.1 in
    rw (p.1, p.2) (inl c.in_err-settle.ensures.memory)

pub returns-clause-next : goal.returns-clause-next
returns-clause-next c = λ a up.
    let t = table_of c.args.blocks.now in
    let f = c.args.frame in
    let now = c.loop-rest.invariant.goes a up in
    let most = c.loop-rest.most in
    let rest = c.loop-rest.rest in
    let put = c.in_ok-settle.ensures in
    rw c.loop-rest.invariant.same (settled t a c.args.stack.now.items (left_of f most (Leaves rest)) most c.args.seen.now c.loop-rest.heights c.settle.new.self now (leaves_most t f.bid f.limit most rest c.loop-rest.heights now.left) (leaves_end t f.bid f.limit most rest c.loop-rest.heights now.left c.loop-rest-test.false) (leaves_known t f.bid f.limit most rest c.args.seen.now c.loop-rest.heights now.left c.loop-rest-test.false) put.put put.ranges put.grows put.keeps)

pub returns-clause-falls : goal.returns-clause-falls
returns-clause-falls c = rw c.loop-rest.invariant.same (omega (arith, frame_least c.args.frame))
