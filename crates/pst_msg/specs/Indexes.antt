-- Indexes of the lists of subnodes of messages that are being gone through.
use Rattle.std.specs.Prelude.{ℕ, ◌*◌, ◌≤◌}
use Rattle.std.specs.List.{All, AllPairs}
use Rattle.pst_block.specs.Table.{Table}
use Rattle.pst_msg.specs.declared.indexes.HeldIndex.{HeldIndex}
use Rattle.pst_msg.specs.declared.indexes.Indexes.{Indexes}
use Rattle.pst_remembered.specs.ListIndex.{IsIndexIn}

-- of a list that has at least twice so many entries
abbrev pub HasTwice : ℕ → HeldIndex → Type 0
HasTwice entries h = 2 * entries ≤ h.entries

abbrev pub IsTwice : HeldIndex → HeldIndex → Type 0
IsTwice x y = HasTwice y.entries x

-- Among these blocks each is one of its list, and that has at least twice as many entries as those behind it: all together they
-- have fewer than twice as many as the first.
pub record AreIndexes (t : Table) (i : Indexes) : Type 0 where
  pub each : All (λ (h : HeldIndex). IsIndexIn t h.index) i.held.items
  pub halving : AllPairs IsTwice i.held.items

-- there is room for one of so many entries
abbrev pub HasRoom : ℕ → Indexes → Type 0
HasRoom entries i = All (HasTwice entries) i.held.items
