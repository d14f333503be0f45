use Rattle.std.proofs.Common.{◌≡◌, false, ap, ◌∙◌, sym, inl}
use Rattle.pst_fault.proofs.FirstLemmas.{answer_ok}
use Rattle.pst_block.specs.Table.{body_of}
use Rattle.pst_block.specs.Blocks.{table_of}
use Rattle.pst_datatree.specs.List.{has_level_two}
use Rattle.pst_block.specs.Block.{bid_key}
use Rattle.pst_datatree.proofs.AddLemmas.{adds_same, adds_then, adds_put, xblock_names}
use Rattle.pst_datatree.proofs.SeenLemmas.{put_level}
use Rattle.pst_datatree.proofs.lengths.xblock_once.Goals as goal

pub returns-in_err-put-clause-known : goal.returns-in_err-put-clause-known
returns-in_err-put-clause-known c =
    let t = table_of c.args.blocks.now in
    c.in_err-put.ensures.known t c.args.entry c.requires.listed (inl (answer_ok _ _ _ (sym c.in_ok-total.ensures.value)).0) (c.xblock_len.ensures.known t c.requires.known)

pub returns-clause-known : goal.returns-clause-known
returns-clause-known c =
    let t = table_of c.args.blocks.now in
    c.in_ok-put.ensures.known t c.args.entry c.requires.listed (inl (answer_ok _ _ _ (sym c.in_ok-total.ensures.value)).0) (c.xblock_len.ensures.known t c.requires.known)

pub returns-in_err-put-clause-levels : goal.returns-in_err-put-clause-levels
returns-in_err-put-clause-levels c =
    let t = table_of c.args.blocks.now in
    let level : has_level_two (body_of t c.args.entry) ≡ false = sym (ap has_level_two c.body_in.ensures) ∙ (sym c.is_xxblock.ensures ∙ c.if-is_xxblock.false) in
    put_level t c.args.seen.now c.xblock_len.new.seen c.put.new.self c.args.entry c.requires.listed level c.xblock_len.ensures.same c.in_err-put.ensures.only

pub returns-clause-levels : goal.returns-clause-levels
returns-clause-levels c =
    let t = table_of c.args.blocks.now in
    let level : has_level_two (body_of t c.args.entry) ≡ false = sym (ap has_level_two c.body_in.ensures) ∙ (sym c.is_xxblock.ensures ∙ c.if-is_xxblock.false) in
    put_level t c.args.seen.now c.xblock_len.new.seen c.put.new.self c.args.entry c.requires.listed level c.xblock_len.ensures.same c.in_ok-put.ensures.only

pub returns-in_err-total-clause-adds : goal.returns-in_err-total-clause-adds
returns-in_err-total-clause-adds c = adds_same (table_of c.args.blocks.now) (λ key. bid_key c.args.entry.bid ≡ key) c.args.seen.now c.xblock_len.new.seen c.xblock_len.ensures.keys

pub returns-in_err-put-clause-adds : goal.returns-in_err-put-clause-adds
returns-in_err-put-clause-adds c =
    let t = table_of c.args.blocks.now in
    let names = xblock_names t c.xblock_len.new.seen c.args.entry (answer_ok _ _ _ (sym c.in_ok-total.ensures.value)).0 in
    adds_then t (λ key. bid_key c.args.entry.bid ≡ key) c.args.seen.now c.xblock_len.new.seen c.put.new.self
    (adds_same t _ c.args.seen.now c.xblock_len.new.seen c.xblock_len.ensures.keys)
    (adds_put t _ c.xblock_len.new.seen c.put.new.self c.args.entry c.requires.listed c.in_err-put.ensures.stays c.in_err-put.ensures.key names (λ key is. is))

pub returns-clause-adds : goal.returns-clause-adds
returns-clause-adds c =
    let t = table_of c.args.blocks.now in
    let names = xblock_names t c.xblock_len.new.seen c.args.entry (answer_ok _ _ _ (sym c.in_ok-total.ensures.value)).0 in
    adds_then t (λ key. bid_key c.args.entry.bid ≡ key) c.args.seen.now c.xblock_len.new.seen c.put.new.self
    (adds_same t _ c.args.seen.now c.xblock_len.new.seen c.xblock_len.ensures.keys)
    (adds_put t _ c.xblock_len.new.seen c.put.new.self c.args.entry c.requires.listed c.in_ok-put.ensures.stays c.in_ok-put.ensures.key names (λ key is. is))
