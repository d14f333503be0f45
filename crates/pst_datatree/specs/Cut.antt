-- The spans of a part of the bytes that spans have in all.
use Rattle.std.specs.Prelude.{ℕ, ◌+◌, ◌-◌, min, nat_lt, Bool, true, false, List, [], ◌∷◌, ◌++◌, if◌then◌else◌}
use Rattle.pst_bytes.specs.declared.span.Span.{Span}

-- the bytes of a span from a place up to another, where there are some
abbrev pub cut_span : ℕ → ℕ → Span → List Span
cut_span from to s =
    if nat_lt (min from s.len) (min to s.len)
    then record { at = s.at + min from s.len; len = min to s.len - min from s.len } ∷ []
    else []

-- the nonempty spans of the bytes of a list of spans from a place up to another
unfoldable pub cut : ℕ → ℕ → List Span → List Span
cut from to [] = []
cut from to (s ∷ rest) = cut_span from to s ++ cut (from - s.len) (to - s.len) rest

-- Spans as a reader of them shows them: all of them, empty ones too; or, of the bytes that they have in all, so many behind
-- the first ones.
abbrev pub shown : Bool → ℕ → ℕ → List Span → List Span
shown true skip left spans = spans
shown false skip left spans = cut skip (skip + left) spans
