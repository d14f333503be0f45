-- Sealed structures: their check values are those of the bytes that stand there.
use Rattle.std.specs.Prelude.{◌≡◌, ℕ, ◌+◌, ◌-◌, ◌*◌, Bool, ◌&&◌, List, [], ◌∷◌, nat_le, if◌then◌else◌}
use Rattle.std.specs.Int.{div_ceil}
use Rattle.pst_bytes.specs.Image.{num, bytes_at}
use Rattle.pst_bytes.specs.declared.span.Span.{Span}
use Rattle.pst_crc.specs.Crc.{crc, signature_of}
use Rattle.pst_make.specs.Elsewhere.{one_field}

-- ---- the header ([MS-PST] 2.2.2.6)

-- dwCRCPartial is the check value of the 471 bytes from offset 8, and dwCRCFull that of the 516 bytes from there.
pub record SealedHeader (I : List ℕ) : Type 0 where
  pub partial : num I 4 4 ≡ crc (bytes_at I (record { at = 8; len = 471 }))
  pub full : num I 524 4 ≡ crc (bytes_at I (record { at = 8; len = 516 }))

abbrev pub header_checks : List Span
header_checks = record { at = 4; len = 4 } ∷ record { at = 524; len = 4 } ∷ []

-- ---- a page ([MS-PST] 2.2.2.7.1)

-- maps have no signature: FMap, PMap, AMap and FPMap pages
abbrev pub is_map_type : ℕ → Bool
is_map_type ptype = nat_le 0x82 ptype && nat_le ptype 0x85

-- what wSig has to be, by the type at 496 and the bid at 504
unfoldable pub page_signature : List ℕ → ℕ → ℕ
page_signature I at = if is_map_type (num I (at + 496) 1) then 0 else signature_of at (num I (at + 504) 8)

-- wSig stands at 498 of the page, and dwCRC at 500; it is the check value of the first 496 bytes.
pub record SealedPage (I : List ℕ) (at : ℕ) : Type 0 where
  pub signature : num I (at + 498) 2 ≡ page_signature I at
  pub check : num I (at + 500) 4 ≡ crc (bytes_at I (record { at = at; len = 496 }))

abbrev pub page_checks : ℕ → List Span
page_checks at = one_field (at + 498) 6

-- ---- a block ([MS-PST] 2.2.2.8.1)

-- the body and a trailer of 16 bytes, rounded up to a multiple of 64
abbrev pub sealed_size : ℕ → ℕ
sealed_size cb = div_ceil (cb + 16) 64 * 64

-- the trailer stands in the last 16 bytes
abbrev pub trailer_of : ℕ → ℕ → ℕ
trailer_of at cb = at + (sealed_size cb - 16)

-- wSig stands at 2 of the trailer, for the bid at 8; dwCRC at 4 is the check value of the body.
pub record SealedBlock (I : List ℕ) (at cb : ℕ) : Type 0 where
  pub signature : num I (trailer_of at cb + 2) 2 ≡ signature_of at (num I (trailer_of at cb + 8) 8)
  pub check : num I (trailer_of at cb + 4) 4 ≡ crc (bytes_at I (record { at = at; len = cb }))

abbrev pub block_checks : ℕ → ℕ → List Span
block_checks at cb = one_field (trailer_of at cb + 2) 6
