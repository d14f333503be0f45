-- The order of keys: it is total, and tells all keys apart.
use Rattle.std.proofs.Common.{ℕ}
use Rattle.std.specs.Ordering.{nat_cmp}
use Rattle.std.specs.Cmp.{IsTotalOrder, then_total, on_total, nat_cmp_total}
use Rattle.std.proofs.lemmas.Map.Lookups.{CmpEqualImpliesEq, exact_unsigned, exact_pairs}
use Rattle.pst_remembered.specs.Keys.{Key, pair_cmp, key_cmp}

pub pairs_exact : CmpEqualImpliesEq pair_cmp
pairs_exact = exact_pairs nat_cmp nat_cmp exact_unsigned exact_unsigned

pub keys_exact : CmpEqualImpliesEq key_cmp
keys_exact = exact_pairs pair_cmp nat_cmp pairs_exact exact_unsigned

pairs_total : IsTotalOrder pair_cmp
pairs_total = then_total (on_total (λ (x : ℕ × ℕ). x.0) nat_cmp_total) (on_total (λ (x : ℕ × ℕ). x.1) nat_cmp_total)

pub keys_total : IsTotalOrder key_cmp
keys_total = then_total (on_total (λ (x : Key). x.0) pairs_total) (on_total (λ (x : Key). x.1) nat_cmp_total)
