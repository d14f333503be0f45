use Rattle.std.proofs.Common.{rules, ap}
use Rattle.std.specs.Prelude.{ltb, option_map}
use Rattle.std.proofs.lemmas.List.Sorted.{IsPartitionPoint-from_clause, IsPartitionedBy-ltb}
use Rattle.pst_btree.proofs.ListLemmas.{found_at, found_behind, found_other, rises_up}
use Rattle.pst_fault.specs.declared.kind.Kind.TheVariants.{Short}
use Rattle.pst_damage.specs.declared.broken.BrokenNode.{BrokenNode}
use Rattle.pst_damage.specs.Laws.{told_nid}
use Rattle.pst_damage.proofs.broken.find_told.Goals as goal

pub returns-then-place-told : goal.returns-then-place-told
returns-then-place-told c =
    let xs = c.args.told.now in
    let up = rises_up told_nid xs c.requires in
    let place = IsPartitionPoint-from_clause (λ y. ltb (told_nid y) c.args.nid) xs _ c.partition_point-place.ensures.partitioned (IsPartitionedBy-ltb told_nid xs c.args.nid up) (λ a r q k. search rules) in
    ap (option_map (λ (b : BrokenNode). b.fault)) (found_behind told_nid xs c.args.nid _ place (search rules))

pub returns-then-node-nid : goal.returns-then-node-nid
returns-then-node-nid c =
    let xs = c.args.told.now in
    let up = rises_up told_nid xs c.requires in
    let place = IsPartitionPoint-from_clause (λ y. ltb (told_nid y) c.args.nid) xs _ c.partition_point-place.ensures.partitioned (IsPartitionedBy-ltb told_nid xs c.args.nid up) (λ a r q k. search rules) in
    ap (option_map (λ (b : BrokenNode). b.fault)) (found_at told_nid xs c.args.nid _ _ place (search rules) (search rules))

pub returns-else-node-nid : goal.returns-else-node-nid
returns-else-node-nid c =
    let xs = c.args.told.now in
    let up = rises_up told_nid xs c.requires in
    let place = IsPartitionPoint-from_clause (λ y. ltb (told_nid y) c.args.nid) xs _ c.partition_point-place.ensures.partitioned (IsPartitionedBy-ltb told_nid xs c.args.nid up) (λ a r q k. search rules) in
    ap (option_map (λ (b : BrokenNode). b.fault)) (found_other told_nid xs c.args.nid _ (record { nid = 0; fault = record { kind = Short; place = record { at = 0; bid = 0; nid = 0 } } }) up place (search rules) (search rules))
