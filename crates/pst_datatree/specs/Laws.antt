-- Laws of data trees.
use Rattle.std.specs.Prelude.{◌≡◌, ℕ, ◌↔◌, None}
use Rattle.pst_block.specs.Block.{bid_key}
use Rattle.pst_block.specs.Table.{Table}
use Rattle.pst_datatree.specs.Data.{data_spans, data_fault}

-- Bit 0 of a block identifier says nothing of its data tree (but in the fault of a block that is missing).
abbrev pub SameDataLaw : Type 0
SameDataLaw =
    (t : Table) (a b : ℕ) → bid_key a ≡ bid_key b → (data_spans t a ≡ data_spans t b) × ((data_fault t a ≡ None) ↔ (data_fault t b ≡ None))
