-- What decoding and encoding of bodies have in common: each keeps how many bytes there are, bytes they stay, and it is undone by
-- the other.
use Rattle.std.proofs.Common.{◌≡◌, ℕ, List, [], ◌∷◌, length, refl}
use Rattle.std.specs.List.{All}
use Rattle.pst_encoding.specs.declared.method.Method.{Method}
use Rattle.pst_encoding.specs.Method.{decoded, encoded}
use Rattle.pst_encoding.specs.Tables.{IsByte}
use Rattle.pst_encoding.proofs.MethodLemmas.{method_law}
use Rattle.pst_page.specs.declared.entry.BlockEntry.{BlockEntry}
use Rattle.pst_plain.specs.Twin.{with_body, all_decoded, all_encoded}
use Rattle.pst_plain.proofs.WriteLemmas.{length_decoded, length_encoded}

-- what is done to a body, by the identifier of its block
abbrev pub Coding : Type 0
Coding = ℕ → List ℕ → List ℕ

pub record IsCoding (coding : Coding) : Type 0 where
  pub long : (bid : ℕ) (body : List ℕ) → length (coding bid body) ≡ length body
  pub bytes : (bid : ℕ) (body : List ℕ) → All IsByte body → All IsByte (coding bid body)

abbrev pub IsUndoneBy : Coding → Coding → Type 0
IsUndoneBy coding back = (bid : ℕ) (body : List ℕ) → All IsByte body → back bid (coding bid body) ≡ body

pub decoding : (method : Method) → IsCoding (decoded method)
decoding method = record { long = length_decoded method; bytes = λ bid body all. (method_law method bid body all).decoded_bytes }

pub encoding : (method : Method) → IsCoding (encoded method)
encoding method = record { long = length_encoded method; bytes = λ bid body all. (method_law method bid body all).encoded_bytes }

pub decoding_undone : (method : Method) → IsUndoneBy (decoded method) (encoded method)
decoding_undone method bid body all = (method_law method bid body all).encoded_again

pub encoding_undone : (method : Method) → IsUndoneBy (encoded method) (decoded method)
encoding_undone method bid body all = (method_law method bid body all).decoded_again

-- with the bodies of blocks changed, one after another
unfoldable pub all_changed : Coding → List BlockEntry → List ℕ → List ℕ
all_changed coding [] I = I
all_changed coding (e ∷ rest) I = all_changed coding rest (with_body (coding e.bid) e I)

pub decoded_is : (method : Method) (entries : List BlockEntry) (I : List ℕ) → all_decoded method entries I ≡ all_changed (decoded method) entries I
unfolding all_decoded all_changed
decoded_is method [] I = refl
decoded_is method (e ∷ rest) I = decoded_is method rest (with_body (decoded method e.bid) e I)

pub encoded_is : (method : Method) (entries : List BlockEntry) (I : List ℕ) → all_encoded method entries I ≡ all_changed (encoded method) entries I
unfolding all_encoded all_changed
encoded_is method [] I = refl
encoded_is method (e ∷ rest) I = encoded_is method rest (with_body (encoded method e.bid) e I)
