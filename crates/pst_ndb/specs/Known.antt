-- What is known of the trees of nodes that were looked at.
use Rattle.std.specs.Prelude.{◌≡◌, ℕ, false, None, List}
use Rattle.pst_page.specs.declared.entry.NodeEntry.{NodeEntry}
use Rattle.pst_block.specs.Table.{Table}
use Rattle.pst_datatree.specs.Seen as seen
use Rattle.pst_subnode.specs.declared.sub.Sub.{Sub}
use Rattle.pst_subnode.specs.Heights as heights
use Rattle.pst_subnode.specs.Known as both
use Rattle.pst_ndb.specs.declared.check_nodes.SoundTrees.{SoundTrees}

-- what is known is true
abbrev pub IsKnownTrue : Table → SoundTrees → Type 0
IsKnownTrue t k = both.AreBothTrue t k.seen k.heights

-- Nothing is known yet.
pub record IsNew (k : SoundTrees) : Type 0 where
  pub trees : (key : ℕ) → seen.holds_tree k.seen key ≡ false
  pub lists : (key : ℕ) → heights.state_at k.heights key ≡ None

-- a node seen as an entry, of its data and its subnodes
abbrev pub entry_of_node : NodeEntry → Sub
entry_of_node e = record { nid = e.nid; bid_data = e.bid_data; bid_sub = e.bid_sub }

-- what was added to what is known, where chains lead to what an entry or each of some entries names
abbrev pub AddsKnown : Table → (List ℕ → Type 0) → SoundTrees → SoundTrees → Type 0
AddsKnown t AreLed old new = both.Adds t AreLed old.seen old.heights new.seen new.heights

abbrev pub KnowsEntry : Table → SoundTrees → Sub → Type 0
KnowsEntry t k sub = both.IsKnownEntry t k.seen k.heights sub

-- each block that was expanded is known, and counted once
pub record IsCounted (k : SoundTrees) : Type 0 where
  pub trees : seen.IsAhead 0 k.seen
  pub lists : heights.AreHeightsCounted k.heights
