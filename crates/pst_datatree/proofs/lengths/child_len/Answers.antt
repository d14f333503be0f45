use Rattle.std.proofs.Common.{◌≡◌, ap, ◌∙◌, sym}
use Rattle.pst_block.specs.Table.{body_of}
use Rattle.pst_block.specs.Blocks.{table_of}
use Rattle.pst_datatree.specs.List.{bid_in}
use Rattle.pst_datatree.proofs.AddLemmas.{adds_of, key_of_named, has_named}
use Rattle.pst_datatree.proofs.lengths.child_len.Goals as goal

pub returns-clause-adds : goal.returns-clause-adds
returns-clause-adds c =
    let t = table_of c.args.blocks.now in
    let bid = bid_in (body_of t c.args.holder) c.args.i in
    let named : c.bid_at-bid.result ≡ bid = c.bid_at-bid.ensures ∙ ap (λ b. bid_in b c.args.i) c.body_in.ensures in
    let of = key_of_named t bid c.bid_at-bid.result c.in-Some.entry c.entry.result named c.entry.ensures.value c.in-Some.is (sym c.is_internal.ensures ∙ c.if-not-is_internal.false) in
    adds_of t _ _ _ _ of c.xblock_once.ensures.adds

pub returns-clause-there : goal.returns-clause-there
returns-clause-there c =
    let t = table_of c.args.blocks.now in
    let bid = bid_in (body_of t c.args.holder) c.args.i in
    let named : c.bid_at-bid.result ≡ bid = c.bid_at-bid.ensures ∙ ap (λ b. bid_in b c.args.i) c.body_in.ensures in
    rw (has_named t c.xblock_once.new.seen bid c.bid_at-bid.result c.in-Some.entry c.entry.result named c.entry.ensures.value c.in-Some.is) at c.xblock_once.ensures.there
