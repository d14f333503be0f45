use Rattle.std.proofs.Common.{rules}
use Rattle.std.specs.Prelude.{ltb}
use Rattle.std.proofs.lemmas.List.Sorted.{IsPartitionPoint-from_clause, IsPartitionedBy-ltb}
use Rattle.pst_subnode.specs.List.{sub_nid}
use Rattle.pst_subnode.proofs.IndexLemmas.{found_at, found_behind, found_other}
use Rattle.pst_subnode.proofs.index.first_of.Goals as goal

pub returns-then-place-entries : goal.returns-then-place-entries
returns-then-place-entries c =
    let xs = c.args.entries.now in
    let place = IsPartitionPoint-from_clause (λ y. ltb (sub_nid y) c.args.nid) xs _ c.partition_point-place.ensures.partitioned (IsPartitionedBy-ltb sub_nid xs c.args.nid c.requires.order) (λ a r q k. search rules) in
    found_behind xs c.args.nid _ place (search rules)

pub returns-then-sub-nid : goal.returns-then-sub-nid
returns-then-sub-nid c =
    let xs = c.args.entries.now in
    let place = IsPartitionPoint-from_clause (λ y. ltb (sub_nid y) c.args.nid) xs _ c.partition_point-place.ensures.partitioned (IsPartitionedBy-ltb sub_nid xs c.args.nid c.requires.order) (λ a r q k. search rules) in
    found_at xs c.args.nid _ _ place (search rules) (search rules)

pub returns-else-sub-nid : goal.returns-else-sub-nid
returns-else-sub-nid c =
    let xs = c.args.entries.now in
    let place = IsPartitionPoint-from_clause (λ y. ltb (sub_nid y) c.args.nid) xs _ c.partition_point-place.ensures.partitioned (IsPartitionedBy-ltb sub_nid xs c.args.nid c.requires.order) (λ a r q k. search rules) in
    found_other xs c.args.nid _ (record { nid = 0; bid_data = 0; bid_sub = 0 }) c.requires.order place (search rules) (search rules)
