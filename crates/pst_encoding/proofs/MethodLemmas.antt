-- Both methods are undone.
use Rattle.std.proofs.Common.{◌≡◌, ℕ, List, [], ◌∷◌, refl}
use Rattle.std.specs.List.{All}
use Rattle.std.proofs.lemmas.List.{length-map}
use Rattle.std.proofs.lemmas.List.Elements.{All-head, All-tail, All-cons, All-nil}
use Rattle.pst_encoding.specs.declared.method.Method.TheVariants.{Permute, Cyclic}
use Rattle.pst_encoding.specs.Tables.{r_of, i_of, IsByte}
use Rattle.pst_encoding.specs.Permute.{permuted, unpermuted, PermuteLaw}
use Rattle.pst_encoding.specs.Cyclic.{cyclic_key}
use Rattle.pst_encoding.specs.Method.{encoded, decoded, MethodLaw}
use Rattle.pst_encoding.proofs.TableLemmas.{tables_law}
use Rattle.pst_encoding.proofs.CyclicLemmas.{cyclic_law, cycled_fits, length-cycled}

decoded_again : (bytes : List ℕ) → All IsByte bytes → unpermuted (permuted bytes) ≡ bytes
decoded_again [] fit = refl
decoded_again (b ∷ rest) fit =
    let here = (tables_law b (All-head IsByte b rest fit)).i_undoes_r in
    let later = decoded_again rest (All-tail IsByte b rest fit) in
    rw (here, later) refl

encoded_again : (bytes : List ℕ) → All IsByte bytes → permuted (unpermuted bytes) ≡ bytes
encoded_again [] fit = refl
encoded_again (b ∷ rest) fit =
    let here = (tables_law b (All-head IsByte b rest fit)).r_undoes_i in
    let later = encoded_again rest (All-tail IsByte b rest fit) in
    rw (here, later) refl

pub permute_law : PermuteLaw
permute_law bytes fit = (decoded_again bytes fit, encoded_again bytes fit)

permuted_fits : (bytes : List ℕ) → All IsByte bytes → All IsByte (permuted bytes)
permuted_fits [] fit = All-nil IsByte
permuted_fits (b ∷ rest) fit =
    All-cons IsByte (r_of b) (permuted rest) (tables_law b (All-head IsByte b rest fit)).r_byte (permuted_fits rest (All-tail IsByte b rest fit))

unpermuted_fits : (bytes : List ℕ) → All IsByte bytes → All IsByte (unpermuted bytes)
unpermuted_fits [] fit = All-nil IsByte
unpermuted_fits (b ∷ rest) fit =
    All-cons IsByte (i_of b) (unpermuted rest) (tables_law b (All-head IsByte b rest fit)).i_byte (unpermuted_fits rest (All-tail IsByte b rest fit))

pub method_law : MethodLaw
unfolding encoded decoded
method_law Permute bid body fit = record {
  decoded_again = decoded_again body fit;
  encoded_again = encoded_again body fit;
  encoded_length = length-map body r_of;
  decoded_length = length-map body i_of;
  encoded_bytes = permuted_fits body fit;
  decoded_bytes = unpermuted_fits body fit;
}
method_law Cyclic bid body fit = record {
  decoded_again = cyclic_law (cyclic_key bid) body fit;
  encoded_again = cyclic_law (cyclic_key bid) body fit;
  encoded_length = length-cycled (cyclic_key bid) body;
  decoded_length = length-cycled (cyclic_key bid) body;
  encoded_bytes = cycled_fits (cyclic_key bid) body;
  decoded_bytes = cycled_fits (cyclic_key bid) body;
}
