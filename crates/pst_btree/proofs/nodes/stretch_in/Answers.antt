use Rattle.std.proofs.Common.{◌≡◌, ◌+◌, ◌-◌, ◌*◌, ◌<◌, ◌≤◌, arith}
use Rattle.pst_bytes.specs.Image.{bytes_of}
use Rattle.pst_page.specs.Entry.{entry_size}
use Rattle.pst_page.specs.Page.{count_at, width_at}
use Rattle.pst_btree.proofs.StretchLemmas.{leaf_stretch, leaf_end}
use Rattle.pst_btree.proofs.nodes.stretch_in.Goals as goal

-- from the first entry whose key is not lower to the last one of the page
pub returns-then-key-low-clause-stretch : goal.returns-then-key-low-clause-stretch
returns-then-key-low-clause-stretch c =
    let page = c.args.page.now in
    let I = bytes_of page.image in
    let ib = page.bref.ib in
    let i = c.loop-i.i in
    let lt : i < count_at I ib = omega (arith, c.loop-i-test.true, c.count-count.ensures) in
    let le = rw c.key.ensures.value at c.if-key-low.true in
    let wide : entry_size page.kind 0 ≤ width_at I ib = rw c.requires.leaf at page.wide in
    let end : (ib + i * width_at I ib) + (count_at I ib - i) * width_at I ib ≡ ib + count_at I ib * width_at I ib = leaf_end ib i (count_at I ib) (width_at I ib) (omega (arith, lt)) in
    rw (c.place.ensures.value, c.width.ensures, c.count-count.ensures)
    (record {
      first = leaf_stretch page.kind I ib i c.args.low c.requires.rises c.loop-i.invariant lt le;
      wide = λ some. wide;
      inside = rw end (omega (arith, page.inside, page.room));
      small = rw end (omega (arith, page.fits, page.room));
    })
