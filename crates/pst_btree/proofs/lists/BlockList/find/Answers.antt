use Rattle.std.proofs.Common.{rules}
use Rattle.std.specs.Prelude.{ltb}
use Rattle.std.proofs.lemmas.List.Sorted.{IsPartitionPoint-from_clause, IsPartitionedBy-ltb}
use Rattle.pst_page.specs.declared.kind.PageKind.TheVariants.{Bbt}
use Rattle.pst_page.specs.Entry.{key_of}
use Rattle.pst_btree.specs.Entries.{block_key}
use Rattle.pst_btree.proofs.ListLemmas.{found_at, found_behind, found_other, rises_up}
use Rattle.pst_btree.proofs.lists.BlockList.find.Goals as goal

pub returns-then-place-self : goal.returns-then-place-self
returns-then-place-self c =
    let xs = c.args.self.now.entries.now in
    let up = rises_up block_key xs c.args.self.now.rise in
    let place = IsPartitionPoint-from_clause (λ y. ltb (block_key y) (key_of Bbt c.args.bid)) xs _ c.partition_point-place.ensures.partitioned (IsPartitionedBy-ltb block_key xs (key_of Bbt c.args.bid) up) (λ a r q k. search rules) in
    found_behind block_key xs (key_of Bbt c.args.bid) _ place (search rules)

pub returns-then-key_of-key : goal.returns-then-key_of-key
returns-then-key_of-key c =
    let xs = c.args.self.now.entries.now in
    let up = rises_up block_key xs c.args.self.now.rise in
    let place = IsPartitionPoint-from_clause (λ y. ltb (block_key y) (key_of Bbt c.args.bid)) xs _ c.partition_point-place.ensures.partitioned (IsPartitionedBy-ltb block_key xs (key_of Bbt c.args.bid) up) (λ a r q k. search rules) in
    found_at block_key xs (key_of Bbt c.args.bid) _ _ place (search rules) (search rules)

pub returns-else-key_of-key : goal.returns-else-key_of-key
returns-else-key_of-key c =
    let xs = c.args.self.now.entries.now in
    let up = rises_up block_key xs c.args.self.now.rise in
    let place = IsPartitionPoint-from_clause (λ y. ltb (block_key y) (key_of Bbt c.args.bid)) xs _ c.partition_point-place.ensures.partitioned (IsPartitionedBy-ltb block_key xs (key_of Bbt c.args.bid) up) (λ a r q k. search rules) in
    found_other block_key xs (key_of Bbt c.args.bid) _ (record { bid = 0; ib = 0; cb = 0 }) up place (search rules) (search rules)
