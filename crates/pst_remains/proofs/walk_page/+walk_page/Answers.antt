use Rattle.std.proofs.Common.{◌≡◌, ◌+◌, ◌-◌, ◌*◌, ◌∙◌, arith}
use Rattle.pst_bytes.specs.Image.{bytes_of}
use Rattle.pst_header.specs.Header.{end_of}
use Rattle.pst_page.specs.Page.{count_at, width_at, entries_from}
use Rattle.pst_page.specs.Entry.{key_at, child_at}
use Rattle.pst_btree.specs.Walk.{next_key}
use Rattle.pst_remains.specs.Pages.{look_at}
use Rattle.pst_remains.proofs.WalkLemmas.{each_goes_on}
use Rattle.pst_remains.proofs.walk_page.+walk_page.Goals as goal

pub loop-i-preserved : goal.loop-i-preserved
loop-i-preserved t c =
    let I = bytes_of c.args.image in
    let ib = c.in-Some.page.bref.ib in
    let image : c.in-Some.page.image ≡ c.args.image = rw c.in-Some.is at c.in_ok-entered.ensures.image in
    let kind : c.in-Some.page.kind ≡ c.args.kind = rw c.in-Some.is at c.in_ok-entered.ensures.kind in
    let count : c.count-i-end.result ≡ count_at I ib = cc (c.count-i-end.ensures, image) in
    let child : c.child-child.result ≡ child_at I (ib + c.loop-i.i * width_at I ib) = cc (c.child-child.ensures, image) in
    let key : c.key-first.result ≡ key_at c.args.kind I (ib + c.loop-i.i * width_at I ib) = cc (c.key-first.ensures.value, image, kind) in
    let bound : c.bound_of-bound.result ≡ next_key c.args.kind I (entries_from I ib (c.loop-i.i + 1)) c.args.high = cc (c.bound_of-bound.ensures, image, kind) in
    record {
      left = rw c.keys_end-least.ensures (each_goes_on c.args.kind I (look_at c.args.kind I (end_of c.args.header.now) (c.args.level - 1)) c.loop-i.least c.args.high _ _ _ ib c.loop-i.i _ _ _ (omega arith) child key bound c.in_ok-walk_page.ensures.left c.loop-i.invariant.left);
      same = c.in_ok-walk_page.ensures.same ∙ c.loop-i.invariant.same;
    }
