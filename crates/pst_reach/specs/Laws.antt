-- What is found level by level is what ways lead to, and the other folders are those to which none does.
use Rattle.std.specs.Prelude.{List, ℕ}
use Rattle.pst_store.specs.Grammar.{IsStore}
use Rattle.pst_store.specs.Parts.{StoreParts, parts_table, parts_entries}
use Rattle.pst_reach.specs.Reach.{AreAllReached, AreAllUnreached}
use Rattle.pst_reach.specs.Levels.{reaches_of}
use Rattle.pst_reach.specs.Path.{unreached_of}

-- In every store the folders that are found are all to which a way leads, each with its depth and its parent.
abbrev pub ReachLaw : Type 0
ReachLaw = (I : List ℕ) (s : StoreParts) → IsStore I s → AreAllReached (parts_table I s) (parts_entries I s) (reaches_of (parts_table I s) (parts_entries I s))

-- And the others are all to which none leads.
abbrev pub UnreachedLaw : Type 0
UnreachedLaw = (I : List ℕ) (s : StoreParts) → IsStore I s → AreAllUnreached (parts_table I s) (parts_entries I s) (unreached_of (parts_table I s) (parts_entries I s))
