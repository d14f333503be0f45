-- Broken nodes in the order of their identifiers.
use Rattle.std.specs.Prelude.{nat_lt, List, [], ◌∷◌, if◌then◌else◌}
use Rattle.pst_damage.specs.declared.broken.BrokenNode.{BrokenNode}

-- one more, at its place in that order
abbrev pub put_in : BrokenNode → List BrokenNode → List BrokenNode
put_in b [] = b ∷ []
put_in b (x ∷ rest) = if nat_lt b.nid x.nid then b ∷ x ∷ rest else x ∷ put_in b rest
