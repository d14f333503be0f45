-- Where spans lie: which have no byte in common.
use Rattle.std.specs.Prelude.{ℕ, ◌+◌, ◌≤◌, ◌⊎◌, ⊤, List, [], ◌∷◌}
use Rattle.pst_bytes.specs.declared.span.Span.{Span}

-- the place behind its last byte
abbrev pub end_of_span : Span → ℕ
end_of_span span = span.at + span.len

-- two spans have no byte in common
abbrev pub IsApartFrom : Span → Span → Type 0
IsApartFrom s t = (end_of_span s ≤ t.at) ⊎ (end_of_span t ≤ s.at)

-- a span has no byte in common with any of these
abbrev pub IsApartFromAll : Span → List Span → Type 0
IsApartFromAll s [] = ⊤
IsApartFromAll s (t ∷ ts) = IsApartFrom s t × IsApartFromAll s ts
