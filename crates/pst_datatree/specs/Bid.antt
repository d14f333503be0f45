-- What a block identifier says of itself ([MS-PST] 2.2.2.2). Its bit 0 says nothing.
use Rattle.std.specs.Prelude.{ℕ, ◌/◌, ◌%◌, Bool, nat_eq, nat_lt}

-- it names no block: but for its bit 0 it is 0
unfoldable pub is_no_block : ℕ → Bool
is_no_block bid = nat_lt bid 2

-- it is an internal block's: its bit 1 is set
unfoldable pub is_internal : ℕ → Bool
is_internal bid = nat_eq (bid / 2 % 2) 1
