-- What contexts asked of their lists of subnodes.
use Rattle.std.proofs.Common.{◌≡◌, Bool, true, false, cond, Some, refl, sym, ◌∙◌}
use Rattle.std.specs.BTreeMap.{get}
use Rattle.std.specs.Ordering.{eq_by_cmp}
use Rattle.std.proofs.lemmas.Map.Views.{tells_apart}
use Rattle.pst_block.specs.Block.{bid_key}
use Rattle.pst_block.specs.Table.{Table}
use Rattle.pst_ndb.specs.Roots.{Roots}
use Rattle.pst_value.specs.declared.asks.Asks.{Asks}
use Rattle.pst_value.specs.Met.{HoldsWith}
use Rattle.pst_remembered.specs.declared.asked.KnownAsks.{KnownAsks}
use Rattle.pst_remembered.specs.declared.role.Role.{Role}
use Rattle.pst_remembered.specs.Asked.{IsAskTrue, AreAskedTrue}
use Rattle.pst_remembered.specs.Keys.{Key, key_cmp}
use Rattle.pst_remembered.specs.Roles.{role_number, role_fault}
use Rattle.pst_remembered.proofs.KeyOrderLemmas.{keys_exact}
use Rattle.pst_remembered.proofs.RoleLemmas.{same_role}

-- what the context of these roots asks, by its key
ask_true : (t : Table) (role : Role) (r : Roots) (q : Key) (asks : Asks) → HoldsWith t r asks (role_fault t role) → q.0.0 ≡ bid_key r.bid_data → q.1 ≡ role_number role → IsAskTrue t q asks
ask_true t role r q asks holds block number = λ other s same e met.
    let is : role ≡ other = same_role role other (sym (same ∙ number)) in
    rw (← is) (holds s (sym (e ∙ block)) met)

-- one more is kept
pub asks_put : (t : Table) (role : Role) (r : Roots) (q : Key) (asks : Asks) (old new : KnownAsks) → AreAskedTrue t old → HoldsWith t r asks (role_fault t role) → q.0.0 ≡ bid_key r.bid_data → q.1 ≡ role_number role
    → ((p : Key) → get key_cmp new.asks p ≡ cond (eq_by_cmp key_cmp q p) (Some asks) (get key_cmp old.asks p)) → AreAskedTrue t new
unfolding AreAskedTrue
asks_put t role r q asks old new are holds block number put = λ p kept found. by_test p kept (eq_by_cmp key_cmp q p) refl (sym (put p) ∙ found)
  where
    by_test : (p : Key) (kept : Asks) (v : Bool) → eq_by_cmp key_cmp q p ≡ v → cond v (Some asks) (get key_cmp old.asks p) ≡ Some kept → IsAskTrue t p kept
    by_test p kept true here found =
        let same : asks ≡ kept = cc in
        let key : q ≡ p = tells_apart keys_exact q p here in
        rw (← same, ← key) (ask_true t role r q asks holds block number)
    by_test p kept false here found = are p kept found

-- they stay
pub asks_same : (t : Table) (old new : KnownAsks) → new.asks.entries ≡ old.asks.entries → AreAskedTrue t old → AreAskedTrue t new
unfolding AreAskedTrue
asks_same t old new same are = λ q asks found. are q asks (rw same at found)
