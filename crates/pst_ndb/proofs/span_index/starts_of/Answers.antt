use Rattle.std.proofs.Common.{◌≡◌, length, ap, ◌∙◌, arith}
use Rattle.pst_block.specs.Blocks.{table_of}
use Rattle.pst_datatree.specs.Data.{data_spans}
use Rattle.pst_datatree.specs.Parts.{part_count, part_in}
use Rattle.pst_ndb.proofs.SpanLemmas.{none_yet, one_more}
use Rattle.pst_ndb.proofs.span_index.starts_of.Goals as goal

pub loop-part-init : goal.loop-part-init
loop-part-init c = none_yet _ _ _ _ c.new-starts.ensures.items c.leaf_count-all.ensures

pub loop-part-preserved : goal.loop-part-preserved
loop-part-preserved c =
    let t = table_of c.args.blocks.now in
    let bid = c.args.bid in
    let part = c.loop-part.part in
    let named : c.bid.result ≡ part_in t bid part = rw (← c.of-parts.ensures.table, ← c.of-parts.ensures.tree) c.bid.ensures in
    let count : c.count-part-end.result ≡ part_count t bid = rw (← c.of-parts.ensures.table, ← c.of-parts.ensures.tree) c.count-part-end.ensures in
    one_more t bid part c.loop-part.left c.leaf_count-left.result c.leaf_count-all.result c.loop-part.starts.items _ c.requires.sound (omega (arith, count, c.loop-part-test.true)) c.loop-part.invariant c.in_ok-push.ensures.items c.leaf_count-all.ensures
    (c.leaf_count-left.ensures ∙ ap (λ b. length (data_spans t b)) named)
