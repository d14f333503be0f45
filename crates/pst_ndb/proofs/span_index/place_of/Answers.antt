use Rattle.std.proofs.Common.{rules, ◌≡◌, arith, true, false, get_or}
use Rattle.std.specs.Prelude.{leb}
use Rattle.std.proofs.lemmas.Bool.Decides.{nat_tests}
use Rattle.std.proofs.lemmas.List.Sorted.{IsPartitionPoint-from_clause, IsPartitionedBy-leb}
use Rattle.pst_ndb.proofs.span_index.place_of.Goals as goal

pub returns : goal.returns
returns c =
    let xs = c.args.starts.now in
    let n = c.args.n in
    let place = IsPartitionPoint-from_clause (λ y. leb y n) xs _ c.partition_point.ensures.partitioned (IsPartitionedBy-leb (λ x. x) xs n c.requires) (λ a r q k. search rules) in
    record {
      within = c.partition_point.ensures.bound;
      before = λ k lt. let yes : leb (get_or xs k 0) n ≡ true = place.0 k 0 (omega (arith, lt)) (omega (arith, lt, c.partition_point.ensures.bound)) in grind (arith, nat_tests, yes);
      behind = λ k le lt. let no : leb (get_or xs k 0) n ≡ false = place.1 k 0 le lt in grind (arith, nat_tests, no);
    }
