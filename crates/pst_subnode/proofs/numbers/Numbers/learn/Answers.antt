use Rattle.std.proofs.Common.{rules, ◌≡◌, Some}
use Rattle.pst_block.specs.Blocks.{table_of}
use Rattle.pst_block.specs.Table.{entry_of}
use Rattle.pst_subnode.specs.ListBlock.{HasEntries}
use Rattle.pst_subnode.proofs.NumberLemmas.{numbers_keep, leaf_have}
use Rattle.pst_subnode.proofs.numbers.Numbers.learn.Goals as goal

pub returns-in_err-numbers-clause-known : goal.returns-in_err-numbers-clause-known
returns-in_err-numbers-clause-known c = numbers_keep (table_of c.args.blocks.now) c.args.self.now c.number_entries.new.self c.number_entries.ensures.keeps c.requires

pub returns-clause-known : goal.returns-clause-known
returns-clause-known c =
    let t = table_of c.args.blocks.now in
    let named : entry_of t c.args.bid ≡ Some c.in-Some.entry = search rules in
    let is : HasEntries t c.in-Some.entry c.in-Slblock.body = search rules in
    c.keep.ensures.known t
    (leaf_have t c.number_entries.new.self c.args.bid c.in-Some.entry c.in-Slblock.body c.in_ok-numbers.numbers.items named is c.in_ok-numbers.ensures.value)
    (numbers_keep t c.args.self.now c.number_entries.new.self c.number_entries.ensures.keeps c.requires)
