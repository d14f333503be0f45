-- The body of an XBLOCK or XXBLOCK ([MS-PST] 2.2.2.8.3.2): btype, a byte; cLevel, a byte; cEnt, 2 bytes; lcbTotal, 4 bytes;
-- then cEnt block identifiers of 8 bytes each.
use Rattle.std.specs.Prelude.{ℕ, ◌+◌, ◌*◌, Bool, ◌&&◌, nat_eq, nat_le, List, length}
use Rattle.pst_bytes.specs.Image.{num}

abbrev pub btype_in : List ℕ → ℕ
btype_in body = num body 0 1

abbrev pub level_in : List ℕ → ℕ
level_in body = num body 1 1

abbrev pub count_in : List ℕ → ℕ
count_in body = num body 2 2

abbrev pub total_in : List ℕ → ℕ
total_in body = num body 4 4

-- the block identifier with a number
abbrev pub bid_in : List ℕ → ℕ → ℕ
bid_in body i = num body (8 + 8 * i) 8

-- the body of a list of blocks or of subnodes (2.2.2.8.3.3): btype and cLevel are these, and cEnt entries of this size fit
abbrev pub is_list_body : ℕ → ℕ → ℕ → List ℕ → Bool
is_list_body btype level size body =
    nat_le 8 (length body) && nat_eq (btype_in body) btype && nat_eq (level_in body) level && nat_le (8 + size * count_in body) (length body)

unfoldable pub is_block_list : ℕ → List ℕ → Bool
is_block_list level body = is_list_body 1 level 8 body

-- cLevel is 2: the body is an XXBLOCK's, if it is any
unfoldable pub has_level_two : List ℕ → Bool
has_level_two body = nat_le 2 (length body) && nat_eq (level_in body) 2
