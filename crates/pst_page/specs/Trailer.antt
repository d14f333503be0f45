-- The trailer of a page of a B-tree or of a map ([MS-PST] 2.2.2.7.1): ptype at 496 and again at 497, wSig at 498, dwCRC at 500,
-- bid at 504.
use Rattle.std.specs.Prelude.{ℕ, ◌+◌, Bool, ◌&&◌, nat_eq, List}
use Rattle.pst_bytes.specs.Image.{num, bytes_at}
use Rattle.pst_crc.specs.Crc.{crc}
use Rattle.pst_page.specs.Page.{checked_span}

-- its identifier and its signature are these, and its check value is right; its type is another matter
unfoldable pub has_trailer : List ℕ → ℕ → ℕ → ℕ → Bool
has_trailer I at signature bid =
    nat_eq (num I (at + 504) 8) bid
    && nat_eq (num I (at + 498) 2) signature
    && nat_eq (num I (at + 500) 4) (crc (bytes_at I (checked_span at)))
