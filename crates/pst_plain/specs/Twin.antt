-- The plain twin of an encoded file, and a plain file encoded ([MS-PST] 2.2.2.6, 5.1, 5.2).
use Rattle.std.specs.Prelude.{ℕ, ◌+◌, Bool, ◌&&◌, nat_eq, nat_le, List, [], ◌∷◌, length, Option, Some, None, if◌then◌else◌}
use Rattle.std.specs.List.{filter}
use Rattle.pst_bytes.specs.Image.{num, bytes_at}
use Rattle.pst_bytes.specs.declared.span.Span.{Span}
use Rattle.pst_encoding.specs.declared.method.Method.{Method}
use Rattle.pst_encoding.specs.Method.{method_number, method_with, encoded, decoded}
use Rattle.pst_page.specs.declared.entry.BlockEntry.{BlockEntry}
use Rattle.pst_block.specs.Block.{body_span, trailer_at}
use Rattle.pst_plain.specs.Written.{written}
use Rattle.pst_plain.specs.Carried.{with_carried}
use Rattle.pst_plain.specs.Blocks.{has_data, data_blocks}

-- ---- the header

-- it has the length and the magics of a header, and the version of a Unicode file
unfoldable pub is_unicode : List ℕ → Bool
is_unicode I = nat_le 564 (length I) && nat_eq (num I 0 4) 0x4e444221 && nat_eq (num I 8 2) 0x4d53 && nat_eq (num I 10 2) 23

-- The method of a file: what its bCryptMethod says. None where it says another number than 1 and 2, or where there is no
-- header of a Unicode file.
unfoldable pub method_of : List ℕ → Option Method
method_of I = if is_unicode I then method_with (num I 513 1) else None

-- the bytes of which dwCRCFull is the check value
abbrev pub full_span : Span
full_span = record { at = 8; len = 516 }

-- the file with another bCryptMethod, and its dwCRCFull carried over
unfoldable pub with_method : ℕ → List ℕ → List ℕ
with_method number I = let J = written I 513 (number ∷ []) in with_carried J 524 (bytes_at I full_span) (bytes_at J full_span)

-- ---- a block

-- the file with the body of a block changed, and dwCRC of its trailer carried over
unfoldable pub with_body : (List ℕ → List ℕ) → BlockEntry → List ℕ → List ℕ
with_body change e I =
    let old = bytes_at I (body_span e) in
    let new = change old in
    with_carried (written I e.ib new) (trailer_at e + 4) old new

-- with the bodies of blocks decoded, or encoded, one after another
unfoldable pub all_decoded : Method → List BlockEntry → List ℕ → List ℕ
all_decoded method [] I = I
all_decoded method (e ∷ rest) I = all_decoded method rest (with_body (decoded method e.bid) e I)

-- the data blocks among them
abbrev pub data_decoded : Method → List BlockEntry → List ℕ → List ℕ
data_decoded method entries I = all_decoded method (filter has_data entries) I

unfoldable pub all_encoded : Method → List BlockEntry → List ℕ → List ℕ
all_encoded method [] I = I
all_encoded method (e ∷ rest) I = all_encoded method rest (with_body (encoded method e.bid) e I)

-- ---- the file

abbrev pub decoded_file : Method → List ℕ → List ℕ
decoded_file method J = all_decoded method (data_blocks J) J

abbrev pub twin_by : Option Method → List ℕ → List ℕ
twin_by None I = I
twin_by (Some method) I = decoded_file method (with_method 0 I)

-- The plain twin: a file that is not encoded is its own. Else bCryptMethod is 0, and the data blocks are decoded; all check
-- values are carried over.
unfoldable pub twin_of : List ℕ → List ℕ
twin_of I = twin_by (method_of I) I

-- the blocks that were decoded
abbrev pub decoded_blocks : Option Method → List ℕ → List BlockEntry
decoded_blocks None I = []
decoded_blocks (Some method) I = data_blocks (with_method 0 I)

-- the other way round: a plain file, encoded
unfoldable pub encoded_of : List ℕ → Method → List ℕ
encoded_of J method = with_method (method_number method) (all_encoded method (data_blocks J) J)
