-- Values that have the same parts, each behind so many of its bytes.
use Rattle.std.specs.Prelude.{◌≡◌, ℕ, ◌+◌}
use Rattle.std.proofs.Props.{props}
use Rattle.pst_datatree.specs.declared.value_view.Value.{Value}
use Rattle.pst_datatree.specs.declared.value_view.Value.TheVariants.{Whole, Pieces}
use Rattle.pst_datatree.specs.Cut.{cut}
use Rattle.pst_datatree.specs.Left.{spans_left, file_of}
use Rattle.pst_datatree.specs.Slices.{IsSameSlice}

-- What one value has from a byte on, another has from a byte on, in the same memory: it is the same slice; or pieces of the same
-- file, whose parts are the same spans.
abbrev pub HaveSameParts : Value → ℕ → Value → ℕ → Type 0
HaveSameParts (Whole at slice) from (Whole place other) behind = (place ≡ at) × IsSameSlice slice other × (behind ≡ from)
HaveSameParts (Whole at slice) from (Pieces q) behind = ⊥
HaveSameParts (Pieces p) from (Whole at slice) behind = ⊥
HaveSameParts (Pieces p) from (Pieces q) behind =
    (file_of q ≡ file_of p) × ((more : ℕ) → cut behind (behind + more) (spans_left q) ≡ cut from (from + more) (spans_left p))

-- that has one proof, so a cursor may keep it
pub HaveSameParts-prop : (v : Value) (from : ℕ) (other : Value) (behind : ℕ) → IsProp (HaveSameParts v from other behind)
HaveSameParts-prop (Whole at slice) from (Whole place other) behind = hlevel props
HaveSameParts-prop (Whole at slice) from (Pieces q) behind = hlevel props
HaveSameParts-prop (Pieces p) from (Whole at slice) behind = hlevel props
HaveSameParts-prop (Pieces p) from (Pieces q) behind = hlevel props
