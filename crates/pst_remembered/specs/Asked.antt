-- What contexts that were found without fault asked of their lists of subnodes: only what is true is known. So a context that is
-- passed over by another list has no fault by that one either.
use Rattle.std.specs.Prelude.{◌≡◌, true, Some, None}
use Rattle.std.specs.BTreeMap.{get}
use Rattle.pst_block.specs.Block.{bid_key}
use Rattle.pst_block.specs.Table.{Table}
use Rattle.pst_ndb.specs.Roots.{Roots}
use Rattle.pst_value.specs.declared.asks.Asks.{Asks}
use Rattle.pst_value.specs.Met.{are_met}
use Rattle.pst_remembered.specs.declared.asked.KnownAsks.{KnownAsks}
use Rattle.pst_remembered.specs.declared.role.Role.{Role}
use Rattle.pst_remembered.specs.Keys.{Key, key_cmp}
use Rattle.pst_remembered.specs.Roles.{role_number, role_fault}

-- what has the data and the role of a key, and a list that meets these asks, has no fault
abbrev pub IsAskTrue : Table → Key → Asks → Type 0
IsAskTrue t q asks =
    (role : Role) (s : Roots) → role_number role ≡ q.1 → bid_key s.bid_data ≡ q.0.0 → are_met t s asks ≡ true → role_fault t role s ≡ None

-- so it is of all that are kept
unfoldable pub AreAskedTrue : Table → KnownAsks → Type 0
AreAskedTrue t a = (q : Key) (asks : Asks) → get key_cmp a.asks q ≡ Some asks → IsAskTrue t q asks
