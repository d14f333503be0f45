-- The words of a command line, as C hands them over.
use Rattle.std.specs.Prelude.{◌≡◌, ◌≢◌, ◌⊎◌, IsUtf8, ℕ, ◌==◌, List, [], ◌∷◌, ◌++◌}
use Rattle.std.specs.List.{slice_split}

-- the pieces between zero bytes
abbrev pub cut_words : List ℕ → List (List ℕ)
cut_words bytes = slice_split (λ b. b == 0) bytes

-- These words lie one behind another, each ended by a zero byte. Of no bytes there are none.
abbrev pub IsWords : List ℕ → List (List ℕ) → Type 0
IsWords bytes words =
    ((bytes ≡ []) × (words ≡ []))
    ⊎ ((front : List ℕ) × (bytes ≡ front ++ 0 ∷ []) × IsUtf8 front × (words ≡ cut_words front))

-- the last word has no zero byte behind it
abbrev pub IsEndless : List ℕ → Type 0
IsEndless bytes = (front : List ℕ) × (b : ℕ) × (bytes ≡ front ++ b ∷ []) × (b ≢ 0)

-- the bytes before the last zero byte are not UTF-8
abbrev pub IsNoText : List ℕ → Type 0
IsNoText bytes = (front : List ℕ) × (bytes ≡ front ++ 0 ∷ []) × (IsUtf8 front → ⊥)
