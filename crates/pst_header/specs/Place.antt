-- Where pages and blocks may lie.
use Rattle.std.specs.Prelude.{◌≡◌, ℕ, ◌+◌, ◌%◌, ◌≤◌, Bool, ◌&&◌, nat_eq, nat_le}
use Rattle.pst_bytes.specs.declared.span.Span.{Span}
use Rattle.pst_header.specs.declared.header.TheConstants.{FIRST_AMAP, UNIT}

-- It lies in the mapped part, which begins at the first allocation map and ends at `end`, and begins with a whole unit.
unfoldable pub is_place : ℕ → Span → Bool
is_place end s = nat_eq (s.at % UNIT) 0 && nat_le FIRST_AMAP s.at && nat_le (s.at + s.len) end

pub record IsPlace (end : ℕ) (s : Span) : Type 0 where
  pub whole_units : s.at % UNIT ≡ 0
  pub mapped : FIRST_AMAP ≤ s.at
  pub inside : s.at + s.len ≤ end
