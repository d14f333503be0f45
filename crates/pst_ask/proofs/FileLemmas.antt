-- What a word is that names a file: by its first byte.
use Rattle.std.proofs.Common.{◌≡◌, ℕ, Bool, true, false, List, [], ◌∷◌, refl}
use Rattle.std.specs.Prelude.{nat_eq}
use Rattle.std.proofs.lemmas.Bool.{ne_eqb, eqb-true}
use Rattle.clap.specs.Words.{Text}
use Rattle.pst_ask.specs.Words.{IsNoOption}

-- ---- a byte is a hyphen or another

by_hyphen : {P : Type 0} (b : ℕ) (t : Bool) → nat_eq b 45 ≡ t → (nat_eq b 45 ≡ false → P) → (b ≡ 45 → P) → P
by_hyphen b false e other hyphen = other e
by_hyphen b true e other hyphen = hyphen (eqb-true b 45 e)

-- what holds for no word, for a hyphen alone and for all words that begin with none holds for all that name a file
pub by_file : (P : Text → Type 0) → P [] → P (45 ∷ []) → ((b : ℕ) (rest : List ℕ) → nat_eq b 45 ≡ false → P (b ∷ rest)) → (file : Text) → IsNoOption file → P file
by_file P empty hyphen other [] no_option = empty
by_file P empty hyphen other (b ∷ []) no_option = by_hyphen b (nat_eq b 45) refl (λ none. other b [] none) (λ e. rw e hyphen)
by_file P empty hyphen other (b ∷ c ∷ rest) no_option = other b (c ∷ rest) (ne_eqb b 45 no_option)
