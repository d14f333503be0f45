use Rattle.std.proofs.Common.{◌≡◌, ◌<◌, ◌+◌, ◌-◌, ◌*◌, ◌∙◌, arith}
use Rattle.std.proofs.lemmas.Result.{err_from_is_err_and}
use Rattle.pst_bytes.specs.Image.{bytes_of}
use Rattle.pst_page.specs.Page.{count_at, width_at, entries_from}
use Rattle.pst_page.specs.Entry.{key_at, child_at}
use Rattle.pst_page.proofs.EntryLemmas.{entries_from_start}
use Rattle.pst_btree.specs.Walk.{next_key}
use Rattle.pst_btree.proofs.WalkLemmas.{page_fails, child_fails, child_goes_on, walk_branch}
use Rattle.pst_btree.proofs.SomeLemmas.{left_start, left_next, left_refused, left_end, walk_spans}
use Rattle.pst_btree.proofs.walk_page.+walk_page.Goals as goal

pub returns-in_err-page-clause-gives : goal.returns-in_err-page-clause-gives
returns-in_err-page-clause-gives t c =
    let p = err_from_is_err_and c.from_residual.result c.from_residual.ensures.1 in
    rw (p.1, p.2) (page_fails c.args.kind (bytes_of c.args.image) _ c.args.level _ _ _ _ c.args.bref c.args.low c.args.high _ c.in_err-page.ensures.gives)

pub returns-in_err-walk_page-clause-gives : goal.returns-in_err-walk_page-clause-gives
returns-in_err-walk_page-clause-gives t c =
    let p = err_from_is_err_and c.from_residual-in_err-walk_page.result c.from_residual-in_err-walk_page.ensures.1 in
    let I = bytes_of c.args.image in
    let ib = c.in_ok-page.page.bref.ib in
    let count : c.count-i-end.result ≡ count_at I ib = cc (c.count-i-end.ensures, c.in_ok-page.ensures.image) in
    let child : c.child-child.result ≡ child_at I (ib + c.loop-i.i * width_at I ib) = cc (c.child-child.ensures, c.in_ok-page.ensures.image) in
    let key : c.key-first.result ≡ key_at c.args.kind I (ib + c.loop-i.i * width_at I ib) = cc (c.key-first.ensures.value, c.in_ok-page.ensures.image, c.in_ok-page.ensures.kind) in
    let bound : c.bound_of-bound.result ≡ next_key c.args.kind I (entries_from I ib (c.loop-i.i + 1)) c.args.high = cc (c.bound_of-bound.ensures, c.in_ok-page.ensures.image, c.in_ok-page.ensures.kind) in
    rw (p.1, p.2)
    (child_fails c.args.kind I _ c.args.high _ ib c.loop-i.i _ _ _ _ _ _ (omega arith) child key bound c.in_err-walk_page.ensures.gives c.loop-i.invariant.gives)

pub returns-in_err-walk_page-clause-some : goal.returns-in_err-walk_page-clause-some
returns-in_err-walk_page-clause-some t c =
    let I = bytes_of c.args.image in
    let ib = c.in_ok-page.page.bref.ib in
    let count : c.count-i-end.result ≡ count_at I ib = cc (c.count-i-end.ensures, c.in_ok-page.ensures.image) in
    let child : c.child-child.result ≡ child_at I (ib + c.loop-i.i * width_at I ib) = cc (c.child-child.ensures, c.in_ok-page.ensures.image) in
    left_refused c.args.kind I (c.args.level - 1) ib c.loop-i.i _ _ _ _ (omega arith) c.loop-i.invariant.some (rw child at c.walk_page.ensures.some)

pub returns-clause-some : goal.returns-clause-some
returns-clause-some t c = left_end _ _ _ _ _ _ _ _ c.loop-i.invariant.some

pub loop-i-init : goal.loop-i-init
loop-i-init t c = record {
  gives = grind (arith, c.in_ok-page.ensures.gives, c.in_ok-page.ensures.bref, entries_from_start, walk_branch);
  same = c.in_ok-page.ensures.same;
  counted = omega (arith, c.in_ok-page.ensures.marked, c.in_ok-page.ensures.counted, c.requires.counted);
  decoded = c.in_ok-page.ensures.decoded;
  some = rw c.in_ok-page.ensures.bref (left_start c.args.kind (bytes_of c.args.image) c.args.level (c.args.level - 1) c.args.bref _ _ (omega arith) c.in_ok-page.ensures.claimed);
}

pub loop-i-preserved : goal.loop-i-preserved
loop-i-preserved t c =
    let I = bytes_of c.args.image in
    let ib = c.in_ok-page.page.bref.ib in
    let count : c.count-i-end.result ≡ count_at I ib = cc (c.count-i-end.ensures, c.in_ok-page.ensures.image) in
    let child : c.child-child.result ≡ child_at I (ib + c.loop-i.i * width_at I ib) = cc (c.child-child.ensures, c.in_ok-page.ensures.image) in
    let key : c.key-first.result ≡ key_at c.args.kind I (ib + c.loop-i.i * width_at I ib) = cc (c.key-first.ensures.value, c.in_ok-page.ensures.image, c.in_ok-page.ensures.kind) in
    let bound : c.bound_of-bound.result ≡ next_key c.args.kind I (entries_from I ib (c.loop-i.i + 1)) c.args.high = cc (c.bound_of-bound.ensures, c.in_ok-page.ensures.image, c.in_ok-page.ensures.kind) in
    let lt : c.loop-i.i < count_at I ib = omega arith in
    record {
      gives = child_goes_on c.args.kind I _ c.args.high _ _ ib c.loop-i.i _ _ _ _ lt child key bound c.in_ok-walk_page.ensures.gives c.loop-i.invariant.gives;
      same = c.in_ok-walk_page.ensures.same ∙ c.loop-i.invariant.same;
      counted = c.in_ok-walk_page.ensures.counted;
      decoded = omega (arith, c.in_ok-walk_page.ensures.decoded, c.loop-i.invariant.decoded);
      some = left_next c.args.kind I (c.args.level - 1) ib c.loop-i.i _ _ _ _ lt c.loop-i.invariant.some (rw child at (walk_spans _ _ _ _ _ _ _ _ _ _ _ _ _ c.in_ok-walk_page.ensures.gives));
    }
