-- How many internal blocks are expanded: each once to which some chain of identifiers leads from a node.
use Rattle.std.specs.Prelude.{◌≡◌, ℕ, ◌-◌, ◌^◌, min, nat_eq, List, [], ◌∷◌, length, ◌↔◌}
use Rattle.std.specs.List.{Contains, IsDistinct}
use Rattle.pst_page.specs.declared.entry.NodeEntry.{NodeEntry}
use Rattle.pst_block.specs.Table.{Table}
use Rattle.pst_subnode.specs.Reach.{IsReached}

-- the identifiers with which chains begin: those of the data and of the subnodes of nodes
abbrev pub roots_of : List NodeEntry → List ℕ
roots_of [] = []
roots_of (e ∷ rest) = e.bid_data ∷ e.bid_sub ∷ roots_of rest

-- a count of 64 bits, which stays at its greatest value
abbrev pub capped : ℕ → ℕ
capped n = min n (2 ^ 64 - 1)

-- The count of the keys to which chains lead from nodes, none of them twice.
abbrev pub AreExpanded : Table → List NodeEntry → ℕ → Type 0
AreExpanded t nodes count =
    (keys : List ℕ) × IsDistinct nat_eq keys × ((key : ℕ) → Contains keys key ↔ IsReached t (roots_of nodes) key) × (count ≡ capped (length keys))

-- There is one such count.
abbrev pub ExpansionLaw : Type 0
ExpansionLaw = (t : Table) (nodes : List NodeEntry) (a b : ℕ) → AreExpanded t nodes a → AreExpanded t nodes b → a ≡ b
