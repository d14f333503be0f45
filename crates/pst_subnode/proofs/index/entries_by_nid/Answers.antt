use Rattle.std.proofs.Common.{rules}
use Rattle.std.proofs.lemmas.List.Sorted.{IsNonDecreasingBy-from_sort_by_key, answers_always}
use Rattle.pst_subnode.specs.List.{sub_nid}
use Rattle.pst_subnode.proofs.IndexLemmas.{sorted_first}
use Rattle.pst_subnode.proofs.index.entries_by_nid.Goals as goal

pub returns-clause-order : goal.returns-clause-order
returns-clause-order c = IsNonDecreasingBy-from_sort_by_key sub_nid _ c.in_ok-sort_by_key.ensures.sorted (λ a r q k. search rules)

pub returns-clause-value : goal.returns-clause-value
returns-clause-value c =
    let stable = c.sort_by_key.ensures.stable sub_nid (answers_always _ _ _ (λ f a r g h. search rules)) in
    rw (← c.in_ok-entries.ensures.value) (sorted_first c.in_ok-entries.entries.items c.sort_by_key.new.self.items stable)
