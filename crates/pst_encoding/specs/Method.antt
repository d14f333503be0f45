-- The methods of encoding: what bCryptMethod of the header says ([MS-PST] 2.2.2.6), and what they make of a block's body.
use Rattle.std.specs.Prelude.{◌≡◌, ℕ, List, length, Option, Some, None, nat_eq, if◌then◌else◌}
use Rattle.std.specs.List.{All}
use Rattle.pst_encoding.specs.declared.method.Method.{Method}
use Rattle.pst_encoding.specs.declared.method.Method.TheVariants.{Permute, Cyclic}
use Rattle.pst_encoding.specs.Tables.{IsByte}
use Rattle.pst_encoding.specs.Permute.{permuted, unpermuted}
use Rattle.pst_encoding.specs.Cyclic.{cycled, cyclic_key}

-- NDB_CRYPT_PERMUTE and NDB_CRYPT_CYCLIC
abbrev pub method_number : Method → ℕ
method_number Permute = 1
method_number Cyclic = 2

-- the method of a number; of any other there is none
abbrev pub method_with : ℕ → Option Method
method_with number = if nat_eq number 1 then Some Permute else if nat_eq number 2 then Some Cyclic else None

-- the body of the block with an identifier, encoded
unfoldable pub encoded : Method → ℕ → List ℕ → List ℕ
encoded Permute bid body = permuted body
encoded Cyclic bid body = cycled (cyclic_key bid) body

-- and decoded
unfoldable pub decoded : Method → ℕ → List ℕ → List ℕ
decoded Permute bid body = unpermuted body
decoded Cyclic bid body = cycled (cyclic_key bid) body

-- Decoding undoes encoding, and encoding decoding, of all bytes under all identifiers. Neither changes how many bytes there
-- are, and bytes they stay.
pub record Undoes (method : Method) (bid : ℕ) (body : List ℕ) : Type 0 where
  pub decoded_again : decoded method bid (encoded method bid body) ≡ body
  pub encoded_again : encoded method bid (decoded method bid body) ≡ body
  pub encoded_length : length (encoded method bid body) ≡ length body
  pub decoded_length : length (decoded method bid body) ≡ length body
  pub encoded_bytes : All IsByte (encoded method bid body)
  pub decoded_bytes : All IsByte (decoded method bid body)

abbrev pub MethodLaw : Type 0
MethodLaw = (method : Method) (bid : ℕ) (body : List ℕ) → All IsByte body → Undoes method bid body
