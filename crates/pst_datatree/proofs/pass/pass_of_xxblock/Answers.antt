use Rattle.std.proofs.Common.{◌≡◌, ◌<◌, ◌≤◌, length, arith}
use Rattle.pst_block.specs.Table.{body_of}
use Rattle.pst_block.specs.Blocks.{table_of}
use Rattle.pst_datatree.specs.List.{count_in}
use Rattle.pst_datatree.specs.Data.{size_of, xblock_spans}
use Rattle.pst_datatree.proofs.PassLemmas.{pass_used, pass_whole}
use Rattle.pst_datatree.proofs.pass.pass_of_xxblock.Goals as goal

pub returns-then-at-len : goal.returns-then-at-len
returns-then-at-len c =
    let t = table_of c.args.blocks.now in
    let x = c.child_entry-holder.result in
    let len : c.from-len.result ≡ length (xblock_spans t x) = omega (arith, c.from-len.ensures, c.xblock_count.ensures.value) in
    let here : c.args.at.child < count_in (body_of t c.args.entry) = omega (arith, c.child_count.ensures.value, c.if-at-child_count.false) in
    let past : length (xblock_spans t x) ≤ c.args.at.leaf = omega (arith, len, c.if-at-len.true) in
    rw len (pass_used t c.args.entry x c.args.at c.args.skip here c.child_entry-holder.ensures.value past)

pub returns : goal.returns
returns c =
    let t = table_of c.args.blocks.now in
    let x = c.child_entry-holder.result in
    let size : c.xblock_size-size.result ≡ size_of (xblock_spans t x) = c.xblock_size-size.ensures.value in
    let here : c.args.at.child < count_in (body_of t c.args.entry) = omega (arith, c.child_count.ensures.value, c.if-at-child_count.false) in
    let small : size_of (xblock_spans t x) ≤ c.args.skip = omega (arith, size, c.if-size-skip.false) in
    rw size (pass_whole t c.args.entry x c.args.at c.args.skip here c.child_entry-holder.ensures.value c.if-at-ne0.false small)
