use Rattle.std.proofs.Common.{sym, ◌∙◌}
use Rattle.pst_bytes.specs.Image.{bytes_of}
use Rattle.pst_block.specs.Blocks.{table_of}
use Rattle.pst_datatree.proofs.AddLemmas.{adds_children}
use Rattle.pst_datatree.proofs.lengths.xxblock_len.Goals as goal

pub returns-in_err-total-clause-adds : goal.returns-in_err-total-clause-adds
returns-in_err-total-clause-adds c =
    adds_children (table_of c.args.blocks.now) c.args.entry c.number16.result (bytes_of c.body_in-body.result) c.args.seen.now c.expand.new.self c.children_len.new.seen c.body_in-body.ensures (sym c.is_block_list.ensures.value ∙ c.if-not-is_block_list.false) c.number16.ensures c.expand.ensures.keys c.children_len.ensures.adds

pub returns-then-total-from-clause-adds : goal.returns-then-total-from-clause-adds
returns-then-total-from-clause-adds c =
    adds_children (table_of c.args.blocks.now) c.args.entry c.number16.result (bytes_of c.body_in-body.result) c.args.seen.now c.expand.new.self c.children_len.new.seen c.body_in-body.ensures (sym c.is_block_list.ensures.value ∙ c.if-not-is_block_list.false) c.number16.ensures c.expand.ensures.keys c.children_len.ensures.adds

pub returns-clause-adds : goal.returns-clause-adds
returns-clause-adds c =
    adds_children (table_of c.args.blocks.now) c.args.entry c.number16.result (bytes_of c.body_in-body.result) c.args.seen.now c.expand.new.self c.children_len.new.seen c.body_in-body.ensures (sym c.is_block_list.ensures.value ∙ c.if-not-is_block_list.false) c.number16.ensures c.expand.ensures.keys c.children_len.ensures.adds
