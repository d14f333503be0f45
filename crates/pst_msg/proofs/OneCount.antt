-- A store names one number of contexts.
use Rattle.std.proofs.Common.{◌≡◌, BTreeSet, List, length, sym, ap, ◌∙◌}
use Rattle.std.specs.Prelude.{◌+◌}
use Rattle.std.specs.List.{Contains}
use Rattle.std.specs.List.Sorted.{IsStrictlySortedBy}
use Rattle.std.specs.BTreeSet.{contains}
use Rattle.std.proofs.lemmas.Map.Lookups.{btree_set_from_contains}
use Rattle.std.proofs.lemmas.Map.Views.{btree_set_contains_iff}
use Rattle.pst_fault.proofs.GeneralLemmas.{same_test}
use Rattle.pst_remembered.specs.Keys.{Key, key_cmp}
use Rattle.pst_ndb.specs.Counts.{capped}
use Rattle.pst_msg.specs.Laws.{CountLaw}
use Rattle.pst_remembered.proofs.KeyOrderLemmas.{keys_exact, keys_total}

abbrev btree_set : List Key → BTreeSet Key
btree_set ks = record { keys = ks }

same_keys : (ks ls : List Key) → IsStrictlySortedBy key_cmp ks → IsStrictlySortedBy key_cmp ls → ((q : Key) → Contains ks q → Contains ls q) → ((q : Key) → Contains ls q → Contains ks q) → ks ≡ ls
same_keys ks ls a b to from =
    let left = btree_set_contains_iff keys_total keys_exact (btree_set ks) in
    let right = btree_set_contains_iff keys_total keys_exact (btree_set ls) in
    btree_set_from_contains keys_total (btree_set ks) (btree_set ls) a b (λ q. same_test (contains key_cmp (btree_set ks) q) (contains key_cmp (btree_set ls) q) (λ e. (right q).1 (to q ((left q).0 e))) (λ e. (left q).1 (from q ((right q).0 e)))) keys_exact

pub count_law : CountLaw
count_law t nodes start a b one other =
    let same : one.0 ≡ other.0 = same_keys one.0 other.0 one.1 other.1 (λ q w. (other.2 q).1 ((one.2 q).0 w)) (λ q w. (one.2 q).1 ((other.2 q).0 w)) in
    one.3 ∙ ap (λ (ks : List Key). capped (start + length ks)) same ∙ sym other.3
