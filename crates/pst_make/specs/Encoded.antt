-- Stores whose data blocks are encoded ([MS-PST] 2.2.2.6, 5.1, 5.2).
use Rattle.std.specs.Prelude.{◌≡◌, ℕ, ◌/◌, ◌%◌, Bool, nat_eq, List, [], ◌∷◌}
use Rattle.std.specs.List.{filter}
use Rattle.pst_bytes.specs.Image.{num, bytes_at}
use Rattle.pst_bytes.specs.declared.span.Span.{Span}
use Rattle.pst_encoding.specs.declared.method.Method.{Method}
use Rattle.pst_encoding.specs.Method.{method_number, encoded}
use Rattle.pst_make.specs.declared.layout.BlockPlace.{BlockPlace}
use Rattle.pst_make.specs.declared.plan.Plan.{Plan}
use Rattle.pst_make.specs.Elsewhere.{SameElsewhere}
use Rattle.pst_make.specs.Layout.{block_places}
use Rattle.pst_make.specs.Sealed.{SealedBlock, SealedHeader, block_checks, header_checks}

-- the identifier of a data block, whose bit 1 is clear ([MS-PST] 2.2.2.2)
abbrev pub names_data : ℕ → Bool
names_data bid = nat_eq (bid / 2 % 2) 0

abbrev pub holds_data : BlockPlace → Bool
holds_data block = names_data block.bid

abbrev pub place_of_body : BlockPlace → Span
place_of_body block = record { at = block.ib; len = block.cb }

-- The body of a block is encoded for its identifier, and the block is sealed; all else is as it was.
pub record IsEncodedBlock (method : Method) (block : BlockPlace) (old new : List ℕ) : Type 0 where
  pub body : bytes_at new (place_of_body block) ≡ encoded method block.bid (bytes_at old (place_of_body block))
  pub sealed : SealedBlock new block.ib block.cb
  pub others : SameElsewhere old new (place_of_body block ∷ block_checks block.ib block.cb)

-- blocks, one after another
unfoldable pub AreEncoded : Method → List BlockPlace → List ℕ → List ℕ → Type 0
AreEncoded method [] old new = new ≡ old
AreEncoded method (first ∷ rest) old new = (between : List ℕ) × IsEncodedBlock method first old between × AreEncoded method rest between new

-- The header says by which method its blocks are encoded, and is sealed; all else is as it was.
pub record IsEncodedHeader (method : Method) (old new : List ℕ) : Type 0 where
  pub method_is : num new 513 1 ≡ method_number method
  pub sealed : SealedHeader new
  pub others : SameElsewhere old new (record { at = 513; len = 1 } ∷ header_checks)

-- the data blocks of a plan
abbrev pub data_places : Plan → List BlockPlace
data_places plan = filter holds_data (block_places plan)

-- A store of this plan, encoded: each of its data blocks once, and then the header.
abbrev pub IsEncoded : Method → Plan → List ℕ → List ℕ → Type 0
IsEncoded method plan old new = (between : List ℕ) × AreEncoded method (data_places plan) old between × IsEncodedHeader method between new
