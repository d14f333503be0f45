use Rattle.std.proofs.Common.{rules}
use Rattle.std.specs.Prelude.{ltb}
use Rattle.std.proofs.lemmas.List.Sorted.{IsPartitionPoint-from_clause, IsPartitionedBy-ltb}
use Rattle.pst_btree.specs.Entries.{node_key}
use Rattle.pst_btree.proofs.ListLemmas.{found_at, found_behind, found_other, rises_up}
use Rattle.pst_btree.proofs.lists.NodeList.find.Goals as goal

pub returns-then-place-self : goal.returns-then-place-self
returns-then-place-self c =
    let xs = c.args.self.now.entries.now in
    let up = rises_up node_key xs c.args.self.now.rise in
    let place = IsPartitionPoint-from_clause (λ y. ltb (node_key y) c.args.nid) xs _ c.partition_point-place.ensures.partitioned (IsPartitionedBy-ltb node_key xs c.args.nid up) (λ a r q k. search rules) in
    found_behind node_key xs c.args.nid _ place (search rules)

pub returns-then-entry-nid : goal.returns-then-entry-nid
returns-then-entry-nid c =
    let xs = c.args.self.now.entries.now in
    let up = rises_up node_key xs c.args.self.now.rise in
    let place = IsPartitionPoint-from_clause (λ y. ltb (node_key y) c.args.nid) xs _ c.partition_point-place.ensures.partitioned (IsPartitionedBy-ltb node_key xs c.args.nid up) (λ a r q k. search rules) in
    found_at node_key xs c.args.nid _ _ place (search rules) (search rules)

pub returns-else-entry-nid : goal.returns-else-entry-nid
returns-else-entry-nid c =
    let xs = c.args.self.now.entries.now in
    let up = rises_up node_key xs c.args.self.now.rise in
    let place = IsPartitionPoint-from_clause (λ y. ltb (node_key y) c.args.nid) xs _ c.partition_point-place.ensures.partitioned (IsPartitionedBy-ltb node_key xs c.args.nid up) (λ a r q k. search rules) in
    found_other node_key xs c.args.nid _ (record { nid = 0; bid_data = 0; bid_sub = 0; parent = 0 }) up place (search rules) (search rules)
