-- Lists of spans, and the bytes that they are.
use Rattle.std.specs.Prelude.{◌≡◌, ℕ, ◌<◌, ◌≤◌, ⊤, nat_lt, Option, Some, None, List, [], ◌∷◌, length, filter, flat_map, map}
use Rattle.pst_bytes.specs.declared.span.Span.{Span}
use Rattle.pst_bytes.specs.Image.{bytes_at, IsInside}

-- those with bytes
abbrev pub nonempty : List Span → List Span
nonempty spans = filter (λ s. nat_lt 0 s.len) spans

-- the bytes of each span
abbrev pub slices_of : List ℕ → List Span → List (List ℕ)
slices_of I spans = map (bytes_at I) spans

-- the bytes of all spans, one after another
abbrev pub joined_bytes : List ℕ → List Span → List ℕ
joined_bytes I spans = flat_map (bytes_at I) spans

-- the first span of a list, an empty one at 0 where there is none
abbrev pub first_span : List Span → Span
first_span [] = record { at = 0; len = 0 }
first_span (s ∷ rest) = s

-- each span lies in the file
abbrev pub AreInside : List ℕ → List Span → Type 0
AreInside I [] = ⊤
AreInside I (s ∷ rest) = IsInside I s × AreInside I rest

-- the span that alone has bytes, an empty one where none has, and none where several have
abbrev pub OnlySpan : List Span → Option Span → Type 0
OnlySpan spans None = 1 < length (nonempty spans)
OnlySpan spans (Some s) = (length (nonempty spans) ≤ 1) × (s ≡ first_span (nonempty spans))
