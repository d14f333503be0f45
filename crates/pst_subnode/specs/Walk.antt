-- What the steps of the walk of lists have in common: what they begin with, and what they leave.
use Rattle.std.specs.Prelude.{ℕ, ◌≤◌, List, Option}
use Rattle.pst_fault.specs.declared.fault.Fault.{Fault}
use Rattle.pst_block.specs.Table.{Table}
use Rattle.pst_datatree.specs.declared.seen.Seen.{Seen}
use Rattle.pst_datatree.specs.Seen.{tree_expansions, IsSeenTrue, KeepsCount}
use Rattle.pst_subnode.specs.declared.heights.Heights.{Heights}
use Rattle.pst_subnode.specs.Heights.{list_expansions, AreTrue, AreHeightsCounted, NoNewMarks}
use Rattle.pst_subnode.specs.Marks.{HaveCome}
use Rattle.pst_subnode.specs.Known.{Adds}

-- A step begins: what is known is true, and from each marked list the walk has come to this place, of this rank and under this
-- limit.
pub record IsBegun (t : Table) (s : Seen) (h : Heights) (place : ℕ → Option Fault) (rank limit : ℕ) : Type 0 where
  pub trees : IsSeenTrue t s
  pub lists : AreTrue t h
  pub come : HaveCome t h place rank limit

-- What is counted has not fallen.
pub record CountsGrow (s : Seen) (h : Heights) (s' : Seen) (h' : Heights) : Type 0 where
  pub trees : tree_expansions s ≤ tree_expansions s'
  pub lists : list_expansions h ≤ list_expansions h'

-- Whatever it answers: what is known is true, nothing more is marked, chains lead to what is new if they lead to where it began,
-- and what is counted has not fallen.
pub record IsWalked (t : Table) (AreLed : List ℕ → Type 0) (s : Seen) (h : Heights) (s' : Seen) (h' : Heights) : Type 0 where
  pub trees : IsSeenTrue t s'
  pub lists : AreTrue t h'
  pub marks : NoNewMarks h h'
  pub adds : Adds t AreLed s h s' h'
  pub grows : CountsGrow s h s' h'

-- Where it finds no fault: the blocks that were expanded are still those that are known.
pub record KeepsCounts (s : Seen) (h : Heights) (s' : Seen) (h' : Heights) : Type 0 where
  pub trees : KeepsCount s s'
  pub lists : AreHeightsCounted h → AreHeightsCounted h'
