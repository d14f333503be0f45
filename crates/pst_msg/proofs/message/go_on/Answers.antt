use Rattle.std.proofs.Common.{refl, ap, ◌∙◌, sym, arith}
use Rattle.pst_ndb.specs.Views.{table_of_node, roots_of}
use Rattle.pst_mail.specs.Fault.{below_message}
use Rattle.pst_msg.specs.declared.frame.Frame.{Frame}
use Rattle.pst_msg.specs.Frames.{with_rest}
use Rattle.pst_msg.proofs.BrokenLemmas.{broken_held}
use Rattle.pst_msg.proofs.CountLemmas.{grows_same}
use Rattle.pst_msg.proofs.OpenLemmas.{grown}
use Rattle.pst_msg.proofs.FrameLemmas.{row_of_message, frame_refused, frame_opened, frame_step, frame_same, frame_later, fewer_left, holder_later, row_of_frame, refused_by_name, known_by_name, opened_by_name}
use Rattle.pst_msg.proofs.message.go_on.Goals as goal

pub loop-row-init : goal.loop-row-init
loop-row-init c = record {
  only = refl;
  known = c.requires.known;
  grows = grows_same (table_of_node c.args.frame.now.node) _ c.args.known.now;
  frame = c.requires.frame;
  holder = c.requires.holder;
  steps = omega arith;
}

-- ---- the row is told

pub returns-in_err-row-clause-grows : goal.returns-in_err-row-clause-grows
returns-in_err-row-clause-grows c =
    let before = c.loop-row.invariant in
    grown (table_of_node c.args.frame.now.node) _ _ _ _ before.grows (rw before.frame.table at c.next_row.ensures.grows)

-- ---- the index is made

pub turn_to-requires : goal.turn_to-requires
turn_to-requires c = rw c.next_row.ensures.only c.next_row.ensures.known

pub returns-in_err-turn_to-clause-grows : goal.returns-in_err-turn_to-clause-grows
returns-in_err-turn_to-clause-grows c =
    let t = table_of_node c.args.frame.now.node in
    let before = c.loop-row.invariant in
    let only = c.next_row.ensures.only in
    grown t _ _ _ _ (grown t _ _ _ _ before.grows (rw before.frame.table at c.next_row.ensures.grows)) (rw before.frame.table at (rw only at c.turn_to.ensures.grows))

-- ---- a row

pub returns-in-Ok-Some-clause-grows : goal.returns-in-Ok-Some-clause-grows
returns-in-Ok-Some-clause-grows c =
    let f = c.loop-row.frame in
    let t = table_of_node c.args.frame.now.node in
    let before = c.loop-row.invariant in
    let only = c.next_row.ensures.only in
    let same = ap (λ (x : Frame). x.node) before.only in
    let next = rw c.in-Some.is at c.in_ok-row.ensures.some in
    let row = row_of_frame t c.loop-row.known f c.next_row.new.frame.rest next.row next.first before.frame in
    let turned = grown t _ _ _ _ (grown t _ _ _ _ before.grows (rw before.frame.table at c.next_row.ensures.grows)) (rw before.frame.table at (rw only at c.turn_to.ensures.grows)) in
    row_of_message t (roots_of c.args.frame.now.node) c.in-Some.row next.row _ _ _ next.named (rw same at row) turned (rw same at (rw only at c.open_row.ensures.opening.grows))

pub returns-in-Ok-Some-clause-open : goal.returns-in-Ok-Some-clause-open
returns-in-Ok-Some-clause-open c =
    let f = c.loop-row.frame in
    let t = table_of_node c.args.frame.now.node in
    let before = c.loop-row.invariant in
    let only = c.next_row.ensures.only in
    let next = rw c.in-Some.is at c.in_ok-row.ensures.some in
    let roots = ap (λ (x : Frame). roots_of x.node) before.only in
    let limit = ap (λ (x : Frame). x.limit) before.only in
    let holder = ap (λ (x : Frame). x.holder) before.only in
    let opened = rw before.frame.table at (rw only at (rw c.in-Ok-Some.field-0-is at c.in-Ok-Some.ensures.opening.opened)) in
    let told = frame_later t _ c.loop-row.known c.next_row.new.known _ _ f (rw before.frame.table at c.next_row.ensures.grows) before.frame in
    let turned = frame_later t _ c.next_row.new.known c.turn_to.new.known _ _ f (rw before.frame.table at (rw only at c.turn_to.ensures.grows)) told in
    rw only
    (frame_opened t _ c.turn_to.new.known c.open_row.new.known c.args.frame.now f c.next_row.new.frame.rest next.row c.in-Ok-Some.above (rw before.frame.table at (rw only at c.open_row.ensures.opening.grows)) turned (c.next_row.ensures.table ∙ before.frame.table) next.first
    (opened_by_name t c.open_row.new.known (roots_of f.node) f.limit f.bid c.in-Some.row next.row c.in-Ok-Some.above next.named opened) roots limit holder before.steps)

pub loop-row-preserved : goal.loop-row-preserved
loop-row-preserved c =
    let f = c.loop-row.frame in
    let t = table_of_node c.args.frame.now.node in
    let before = c.loop-row.invariant in
    let only = c.next_row.ensures.only in
    let rest = c.next_row.new.frame.rest in
    let next = rw c.in-Some.is at c.in_ok-row.ensures.some in
    let same = ap (λ (x : Frame). x.node) before.only in
    let row = row_of_frame t c.loop-row.known f rest next.row next.first before.frame in
    let done = rw before.frame.table at (rw only at (rw c.in-Ok-None.field-0-is at c.in-Ok-None.ensures.opening.done)) in
    let named = rw before.frame.table at c.next_row.ensures.grows in
    let made = rw before.frame.table at (rw only at c.turn_to.ensures.grows) in
    let told = frame_later t _ c.loop-row.known c.next_row.new.known _ _ f named before.frame in
    let turned = frame_later t _ c.next_row.new.known c.turn_to.new.known _ _ f made told in
    let grows = rw before.frame.table at (rw only at c.open_row.ensures.opening.grows) in
    record {
      only = only ∙ ap (λ (x : Frame). with_rest x rest) before.only;
      known = rw before.frame.table at (rw only at c.open_row.ensures.opening.known);
      grows = row_of_message t (roots_of c.args.frame.now.node) c.in-Some.row next.row _ _ _ next.named (rw same at row) (grown t _ _ _ _ (grown t _ _ _ _ before.grows named) made) (rw same at (rw only at c.open_row.ensures.opening.grows));
      frame = rw only (frame_step t _ c.turn_to.new.known c.open_row.new.known f rest next.row grows turned (c.next_row.ensures.table ∙ before.frame.table) next.first (known_by_name t c.open_row.new.known (roots_of f.node) f.limit f.bid c.in-Some.row next.row next.named done));
      holder = rw only (holder_later t _ c.turn_to.new.known c.open_row.new.known f grows (holder_later t _ c.next_row.new.known c.turn_to.new.known f made (holder_later t _ c.loop-row.known c.next_row.new.known f named before.holder)));
      steps = rw only (fewer_left t f rest next.row _ next.first before.steps);
    }

-- ---- a row with a fault, which is that of the message

pub refuse_all-requires-clause-first : goal.refuse_all-requires-clause-first
refuse_all-requires-clause-first c =
    let f = c.loop-row.frame in
    let t = table_of_node c.args.frame.now.node in
    let before = c.loop-row.invariant in
    let only = c.next_row.ensures.only in
    let next = rw c.in-Some.is at c.in_ok-row.ensures.some in
    let told = refused_by_name t (below_message t f.limit) (roots_of f.node) f.bid c.in-Some.row next.row c.in-Err.fault next.named (rw before.frame.table at (rw only at c.in-Err.ensures.opening.refused)) in
    let refused = frame_refused t c.loop-row.known f c.next_row.new.frame.rest next.row c.in-Err.fault before.known before.frame next.first told in
    rw only (rw before.frame.table (broken_held t c.loop-row.known f c.in-Err.fault before.known before.frame refused))

pub refuse_all-requires-clause-stack : goal.refuse_all-requires-clause-stack
refuse_all-requires-clause-stack c =
    let f = c.loop-row.frame in
    let t = table_of_node c.args.frame.now.node in
    let before = c.loop-row.invariant in
    let only = c.next_row.ensures.only in
    let same = ap (λ (x : Frame). x.node) before.only in
    let limit = ap (λ (x : Frame). x.limit) before.only in
    let next = rw c.in-Some.is at c.in_ok-row.ensures.some in
    let told = refused_by_name t (below_message t f.limit) (roots_of f.node) f.bid c.in-Some.row next.row c.in-Err.fault next.named (rw before.frame.table at (rw only at c.in-Err.ensures.opening.refused)) in
    let refused = frame_refused t c.loop-row.known f c.next_row.new.frame.rest next.row c.in-Err.fault before.known before.frame next.first told in
    rw only (rw before.frame.table (c.requires.stack c.in-Err.fault (rw (same, limit) at refused)))

pub returns-in-Err-clause-grows : goal.returns-in-Err-clause-grows
returns-in-Err-clause-grows c =
    let f = c.loop-row.frame in
    let t = table_of_node c.args.frame.now.node in
    let before = c.loop-row.invariant in
    let only = c.next_row.ensures.only in
    let same = ap (λ (x : Frame). x.node) before.only in
    let next = rw c.in-Some.is at c.in_ok-row.ensures.some in
    let row = row_of_frame t c.loop-row.known f c.next_row.new.frame.rest next.row next.first before.frame in
    let turned = grown t _ _ _ _ (grown t _ _ _ _ before.grows (rw before.frame.table at c.next_row.ensures.grows)) (rw before.frame.table at (rw only at c.turn_to.ensures.grows)) in
    let opened = row_of_message t (roots_of c.args.frame.now.node) c.in-Some.row next.row _ _ _ next.named (rw same at row) turned (rw same at (rw only at c.open_row.ensures.opening.grows)) in
    grown t _ _ _ _ opened (rw before.frame.table at (rw only at c.refuse_all.ensures.grows))

pub returns-in-Err-clause-refused : goal.returns-in-Err-clause-refused
returns-in-Err-clause-refused c =
    let f = c.loop-row.frame in
    let t = table_of_node c.args.frame.now.node in
    let before = c.loop-row.invariant in
    let only = c.next_row.ensures.only in
    let same = ap (λ (x : Frame). x.node) before.only in
    let limit = ap (λ (x : Frame). x.limit) before.only in
    let next = rw c.in-Some.is at c.in_ok-row.ensures.some in
    let told = refused_by_name t (below_message t f.limit) (roots_of f.node) f.bid c.in-Some.row next.row c.in-Err.fault next.named (rw before.frame.table at (rw only at c.in-Err.ensures.opening.refused)) in
    let refused = frame_refused t c.loop-row.known f c.next_row.new.frame.rest next.row c.in-Err.fault before.known before.frame next.first told in
    c.refuse_all.ensures.same _ (rw (same, limit) at refused)

-- ---- no row is left

pub finish-requires-clause-frame : goal.finish-requires-clause-frame
finish-requires-clause-frame c =
    let f = c.loop-row.frame in
    let t = table_of_node c.args.frame.now.node in
    let before = c.loop-row.invariant in
    let only = c.next_row.ensures.only in
    let left = rw c.in_default.is at c.in_ok-row.ensures.none in
    let told = frame_later t _ c.loop-row.known c.next_row.new.known _ _ f (rw before.frame.table at c.next_row.ensures.grows) before.frame in
    rw only (rw before.frame.table (frame_same t c.next_row.new.known f c.next_row.new.frame.rest (c.next_row.ensures.table ∙ before.frame.table) (left.1 ∙ sym left.0) told))

pub returns-in_err-finish-clause-grows : goal.returns-in_err-finish-clause-grows
returns-in_err-finish-clause-grows c =
    let t = table_of_node c.args.frame.now.node in
    let before = c.loop-row.invariant in
    grown t _ _ _ _ (grown t _ _ _ _ before.grows (rw before.frame.table at c.next_row.ensures.grows)) (rw before.frame.table at (rw c.next_row.ensures.only at c.finish.ensures.grows))

pub returns-clause-grows : goal.returns-clause-grows
returns-clause-grows c =
    let t = table_of_node c.args.frame.now.node in
    let before = c.loop-row.invariant in
    grown t _ _ _ _ (grown t _ _ _ _ before.grows (rw before.frame.table at c.next_row.ensures.grows)) (rw before.frame.table at (rw c.next_row.ensures.only at c.finish.ensures.grows))
