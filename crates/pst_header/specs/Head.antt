-- A good header of an image ([MS-PST] 2.2.2.6).
use Rattle.std.specs.Prelude.{◌≡◌, ℕ, ◌+◌, ◌%◌, ◌≤◌, ◌⊎◌, ◌↔◌, List, length, None}
use Rattle.pst_bytes.specs.Image.{num, bytes_at}
use Rattle.pst_crc.specs.Crc.{crc}
use Rattle.pst_header.specs.declared.header.Header.{Header}
use Rattle.pst_header.specs.Header.{fields, header_fault, amap_place}

-- The last allocation map is the k-th, and lies before the end of the file, as does the page map behind it.
abbrev pub IsLastMap : ℕ → ℕ → Type 0
IsLastMap last eof = (k : ℕ) × (last ≡ amap_place k) × (last + 512 ≤ eof) × (k % 8 ≡ 0 → last + 1024 ≤ eof)

-- What a header says of the space of its file lies in the file: its end, and the last allocation map before that.
pub record IsMapped (I : List ℕ) (h : Header) : Type 0 where
  pub eof_inside : h.eof ≤ length I
  pub last_map : IsLastMap h.last_amap h.eof

pub record Head (I : List ℕ) (h : Header) : Type 0 where
  -- the file has all bytes of the header
  pub long : 564 ≤ length I
  -- dwMagic and wMagicClient
  pub magic : num I 0 4 ≡ 0x4e444221
  pub client : num I 8 2 ≡ 0x4d53
  -- bCryptMethod: not encoded
  pub plain : num I 513 1 ≡ 0
  -- dwCRCPartial and dwCRCFull
  pub partial : num I 4 4 ≡ crc (bytes_at I (record { at = 8; len = 471 }))
  pub full : num I 524 4 ≡ crc (bytes_at I (record { at = 8; len = 516 }))
  -- the fields are those of the file
  pub fields_are : h ≡ fields I
  -- wVer: a Unicode file
  pub version : h.version ≡ 23
  -- ibFileEof, ibAMapLast and fAMapValid of the ROOT structure
  pub eof_inside : h.eof ≤ length I
  pub last_map : IsLastMap h.last_amap h.eof
  pub valid : (h.maps_valid ≡ 1) ⊎ (h.maps_valid ≡ 2)

-- a header is good exactly where there is no first fault, and its fields are the file's
abbrev pub HeaderLaw : Type 0
HeaderLaw = (I : List ℕ) (h : Header) → Head I h ↔ ((header_fault I ≡ None) × (h ≡ fields I))
