use Rattle.std.proofs.Common.{rules}
use Rattle.std.specs.Prelude.{leb}
use Rattle.std.proofs.lemmas.List.Sorted.{IsPartitionPoint-from_clause, IsPartitionedBy-leb}
use Rattle.pst_remains.specs.declared.pages.Broken.{Broken}
use Rattle.pst_damage.proofs.PagesLemmas.{apart_up}
use Rattle.pst_damage.proofs.apart.count_up_to.Goals as goal

pub returns-clause-up_to : goal.returns-clause-up_to
returns-clause-up_to c =
    let xs = c.args.outer.now in
    IsPartitionPoint-from_clause (λ (y : Broken). leb y.from c.args.key) xs _ c.partition_point.ensures.partitioned (IsPartitionedBy-leb (λ (y : Broken). y.from) xs c.args.key (apart_up xs c.requires)) (λ a r q k. search rules)
