-- Roots that name the same blocks: bit 0 of a block identifier says nothing, and the node of which faults are told decides none.
use Rattle.std.specs.Prelude.{◌≡◌}
use Rattle.pst_block.specs.Block.{bid_key}
use Rattle.pst_ndb.specs.Roots.{Roots}

abbrev pub Alike : Roots → Roots → Type 0
Alike r s = (bid_key r.bid_data ≡ bid_key s.bid_data) × (bid_key r.bid_sub ≡ bid_key s.bid_sub)
