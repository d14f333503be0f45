-- The page map (HNPAGEMAP, [MS-PST] 2.3.1.5) of a span of a heap: where the items of the span begin. And the header of the
-- first span.
--
-- The first 2 bytes of the span, ibHnpm, say where the map begins: cAlloc, 2 bytes; cFree, 2 bytes; then cAlloc + 1 offsets of
-- 2 bytes. All places are counted from the start of the span.
use Rattle.std.specs.Prelude.{ℕ, zero, suc, ◌+◌, ◌*◌, Bool, true, ◌&&◌, nat_le, nat_eq, List}
use Rattle.pst_bytes.specs.declared.span.Span.{Span}
use Rattle.pst_bytes.specs.Image.{num}

-- ibHnpm
abbrev pub map_offset : List ℕ → Span → ℕ
map_offset I s = num I s.at 2

-- cAlloc: how many items there are
abbrev pub item_count : List ℕ → Span → ℕ
item_count I s = num I (s.at + map_offset I s) 2

-- the offset with a number, from 0 on
unfoldable pub offset_in : List ℕ → Span → ℕ → ℕ
offset_in I s k = num I (s.at + map_offset I s + 4 + 2 * k) 2

-- ibHnpm, the two counts and the offsets lie in the span
unfoldable pub has_room : List ℕ → Span → Bool
has_room I s = nat_le 2 s.len && nat_le (map_offset I s + 4) s.len && nat_le (map_offset I s + 6 + 2 * item_count I s) s.len

-- each of n numbers is at most the next one
unfoldable pub never_falls : (ℕ → ℕ) → ℕ → Bool
never_falls f zero = true
never_falls f (suc n) = nat_le (f n) (f (suc n)) && never_falls f n

-- the map is in the span, its offsets never fall, and the last one is at most the length of the span
unfoldable pub has_page_map : List ℕ → Span → Bool
has_page_map I s = has_room I s && never_falls (offset_in I s) (item_count I s) && nat_le (offset_in I s (item_count I s)) s.len

-- The span begins with the 12 bytes of a heap's header (HNHDR, 2.3.1.2): ibHnpm, 2 bytes; bSig, a byte, 0xEC; bClientSig, a
-- byte; hidUserRoot, 4 bytes; rgbFillLevel, 4 bytes.
unfoldable pub has_front : List ℕ → Span → Bool
has_front I s = nat_le 12 s.len && nat_eq (num I (s.at + 2) 1) 0xEC
