use Rattle.std.proofs.Common.{◌≡◌, ◌+◌, ◌*◌, ◌∙◌, arith}
use Rattle.pst_bytes.specs.Image.{bytes_of}
use Rattle.pst_header.specs.Header.{end_of}
use Rattle.pst_page.specs.Entry.{block_entry_at}
use Rattle.pst_page.specs.Page.{count_at, width_at}
use Rattle.pst_remains.proofs.BlockLemmas.{leaf_next}
use Rattle.pst_remains.proofs.blocks.enter_page.Goals as goal

pub loop-i-preserved : goal.loop-i-preserved
loop-i-preserved c =
    let I = bytes_of c.args.image in
    let ib = c.args.page.now.bref.ib in
    let count : c.count-i-end.result ≡ count_at I ib = cc (c.count-i-end.ensures, c.requires.image) in
    let entry : c.block_entry.result ≡ block_entry_at I (ib + c.loop-i.i * width_at I ib) = cc (c.block_entry.ensures, c.requires.image) in
    record {
      left = leaf_next (end_of c.args.header.now) I _ _ _ ib c.loop-i.i _ (omega arith) entry c.in_ok-enter_block.ensures.left c.loop-i.invariant.left;
      same = c.in_ok-enter_block.ensures.same ∙ c.loop-i.invariant.same;
    }
