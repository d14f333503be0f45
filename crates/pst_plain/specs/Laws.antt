-- What decoding keeps: which check values are right, how many bytes there are, and all bytes but those of the fields that it
-- changes.
use Rattle.std.specs.Prelude.{◌≡◌, ℕ, ◌+◌, ◌≤◌, ◌↔◌, List, [], ◌∷◌, ◌++◌, length, bit_xor, Option, Some, None}
use Rattle.std.specs.List.{All}
use Rattle.pst_bytes.specs.Image.{num, bytes_at}
use Rattle.pst_bytes.specs.declared.span.Span.{Span}
use Rattle.pst_bytes.specs.Span.{IsApartFromAll}
use Rattle.pst_crc.specs.Crc.{crc}
use Rattle.pst_header.specs.Header.{header_fault}
use Rattle.pst_encoding.specs.declared.method.Method.{Method}
use Rattle.pst_encoding.specs.Method.{decoded}
use Rattle.pst_encoding.specs.Tables.{IsByte}
use Rattle.pst_page.specs.declared.entry.BlockEntry.{BlockEntry}
use Rattle.pst_block.specs.Block.{body_span, trailer_at}
use Rattle.pst_block.specs.Fault.{has_block_trailer}
use Rattle.pst_plain.specs.Carried.{carried}
use Rattle.pst_plain.specs.Blocks.{data_blocks, EndsBy}
use Rattle.pst_plain.specs.Twin.{method_of, with_method, full_span, with_body, twin_of, encoded_of}

-- ---- check values

-- each byte exclusive or the other's
abbrev pub xor_each : List ℕ → List ℕ → List ℕ
xor_each [] others = []
xor_each (a ∷ rest) [] = []
xor_each (a ∷ rest) (b ∷ others) = bit_xor a b ∷ xor_each rest others

-- The check value is linear.
abbrev pub LinearLaw : Type 0
LinearLaw = (bytes others : List ℕ) → length bytes ≡ length others → crc (xor_each bytes others) ≡ bit_xor (crc bytes) (crc others)

-- A check value that is carried over is right exactly where it was right before.
abbrev pub CarriedLaw : Type 0
CarriedLaw = (check : ℕ) (old new : List ℕ) → (carried check old new ≡ crc new) ↔ (check ≡ crc old)

-- A block that is decoded has the trailer that it has to have exactly where it had it before.
abbrev pub TrailerLaw : Type 0
TrailerLaw = (I : List ℕ) (method : Method) (e : BlockEntry) → All IsByte I → EndsBy (length I) e → has_block_trailer (with_body (decoded method e.bid) e I) e ≡ has_block_trailer I e

-- dwCRCFull is right exactly where it was right before.
abbrev pub IsFullCheck : List ℕ → Type 0
IsFullCheck I = num I 524 4 ≡ crc (bytes_at I full_span)

abbrev pub FullCheckLaw : Type 0
FullCheckLaw = (I : List ℕ) (number : ℕ) → All IsByte I → IsByte number → 564 ≤ length I → IsFullCheck (with_method number I) ↔ IsFullCheck I

-- ---- places

-- there are as many bytes as there were, and each span apart from these fields has the bytes that it had
pub record SameBesides (old new : List ℕ) (fields : List Span) : Type 0 where
  pub length_same : length new ≡ length old
  pub others : (s : Span) → IsApartFromAll s fields → bytes_at new s ≡ bytes_at old s

-- bCryptMethod and dwCRCFull of the header
abbrev pub head_fields : List Span
head_fields = record { at = 513; len = 1 } ∷ record { at = 524; len = 4 } ∷ []

-- the body of a block, and dwCRC of its trailer
abbrev pub block_fields : BlockEntry → List Span
block_fields e = body_span e ∷ record { at = trailer_at e + 4; len = 4 } ∷ []

-- of all of these
abbrev pub fields_of : List BlockEntry → List Span
fields_of [] = []
fields_of (e ∷ rest) = block_fields e ++ fields_of rest

-- the fields that are changed in a file to make its twin
abbrev pub changed_by : Option Method → List ℕ → List Span
changed_by None I = []
changed_by (Some method) I = head_fields ++ fields_of (data_blocks (with_method 0 I))

-- No place moves: the twin has as many bytes as the file, and the same ones, but in bCryptMethod and dwCRCFull of the header, and
-- in the bodies and dwCRC of the blocks that are decoded.
abbrev pub PlacesLaw : Type 0
PlacesLaw = (I : List ℕ) → All IsByte I → SameBesides I (twin_of I) (changed_by (method_of I) I)

-- ---- the other way round

-- A twin that is encoded again is the file, byte for byte: so what is said of the twin is said of that very file.
abbrev pub AgainLaw : Type 0
AgainLaw = (I : List ℕ) (method : Method) → All IsByte I → method_of I ≡ Some method → encoded_of (twin_of I) method ≡ I

-- A plain file that is encoded says so, and has the plain file as its twin, byte for byte. So where a twin is no store, the file is
-- no store that was encoded.
abbrev pub EncodedLaw : Type 0
EncodedLaw = (J : List ℕ) (method : Method) → All IsByte J → header_fault J ≡ None →
    let I = encoded_of J method in (method_of I ≡ Some method) × (twin_of I ≡ J)
