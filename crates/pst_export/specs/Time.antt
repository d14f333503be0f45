-- When the files of a message were changed last: when it was received ([MS-OXOMSG] PidTagMessageDeliveryTime).
use Rattle.std.specs.Prelude.{ℕ, ◌-◌, ◌/◌, ◌^◌, ◌&&◌, nat_eq, nat_le, nat_lt, Option, Some, None, if◌then◌else◌}
use Rattle.pst_block.specs.Table.{Table}
use Rattle.pst_btree.specs.Entries.{first_with}
use Rattle.pst_ndb.specs.Roots.{Roots}
use Rattle.pst_value.specs.Read.{exactly, u64_of}
use Rattle.pst_value_json.specs.pst_pc.Values.{Property, id_of, props_of}
use Rattle.pst_export.specs.declared.time.TheConstants.{RECEIVED, TIME, EPOCH}

-- whole seconds since 1 January 1601, as such since 1 January 1970; 0 where they lie before that, or have more than eleven octal digits
abbrev pub unix_seconds : ℕ → ℕ
unix_seconds seconds = if nat_le EPOCH seconds && nat_lt (seconds - EPOCH) (8 ^ 11) then seconds - EPOCH else 0

-- a time in units of 100 nanoseconds ([MS-DTYP] 2.3.3); 0 where there is none
abbrev pub seconds_of : Option ℕ → ℕ
seconds_of None = 0
seconds_of (Some time) = unix_seconds (time / 10000000)

-- that of a property, where it is there and is a time
abbrev pub seconds_in : Option Property → ℕ
seconds_in None = 0
seconds_in (Some p) = if nat_eq p.kind TIME then seconds_of (exactly 8 u64_of p.bytes) else 0

unfoldable pub time_of : Table → Roots → ℕ
time_of t r = seconds_in (first_with id_of RECEIVED (props_of t r))
