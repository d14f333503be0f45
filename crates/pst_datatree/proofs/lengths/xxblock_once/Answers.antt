use Rattle.std.proofs.Common.{inr}
use Rattle.pst_block.specs.Blocks.{table_of}
use Rattle.pst_datatree.proofs.AddLemmas.{adds_xxblock}
use Rattle.pst_datatree.proofs.lengths.xxblock_once.Goals as goal

pub returns-in_err-put-clause-known : goal.returns-in_err-put-clause-known
returns-in_err-put-clause-known c =
    let t = table_of c.args.blocks.now in
    c.in_err-put.ensures.known t c.args.entry c.requires.listed (inr c.in_ok-total.ensures.value.0) c.in_ok-total.ensures.known

pub returns-clause-known : goal.returns-clause-known
returns-clause-known c =
    let t = table_of c.args.blocks.now in
    c.in_ok-put.ensures.known t c.args.entry c.requires.listed (inr c.in_ok-total.ensures.value.0) c.in_ok-total.ensures.known

pub returns-in_err-put-clause-adds : goal.returns-in_err-put-clause-adds
returns-in_err-put-clause-adds c =
    adds_xxblock (table_of c.args.blocks.now) c.args.seen.now c.xxblock_len.new.seen c.put.new.self c.args.entry c.requires.listed c.in_err-put.ensures.stays c.in_err-put.ensures.key c.in_ok-total.ensures.there c.in_ok-total.ensures.adds

pub returns-clause-adds : goal.returns-clause-adds
returns-clause-adds c =
    adds_xxblock (table_of c.args.blocks.now) c.args.seen.now c.xxblock_len.new.seen c.put.new.self c.args.entry c.requires.listed c.in_ok-put.ensures.stays c.in_ok-put.ensures.key c.in_ok-total.ensures.there c.in_ok-total.ensures.adds
