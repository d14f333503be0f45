-- What is told of identifiers where nodes that are intact are read, and others may be broken or lost.
use Rattle.std.specs.Prelude.{ℕ, List, Option, None, option_map, is_none, if◌then◌else◌}
use Rattle.pst_fault.specs.declared.fault.Fault.{Fault}
use Rattle.pst_fault.specs.Each.{if_there}
use Rattle.pst_fault.specs.First.{◌then◌}
use Rattle.pst_page.specs.declared.entry.NodeEntry.{NodeEntry}
use Rattle.pst_btree.specs.Entries.{node_with}
use Rattle.pst_block.specs.Table.{Table}
use Rattle.pst_remains.specs.declared.pages.Broken.{Broken}
use Rattle.pst_remains.specs.Pages.{page_before}
use Rattle.pst_damage.specs.Nodes.{node_damage}

pub record LostParts : Type 0 where
  -- the fault of the node with an identifier, where it is there and broken
  pub own : ℕ → Option Fault
  -- the fault of the page behind which an identifier lies, where it lies behind one with a fault
  pub behind : ℕ → Option Fault

-- either of them
abbrev pub told_lost : LostParts → ℕ → Option Fault
told_lost lost nid = lost.own nid then lost.behind nid

-- of a store nothing is told
abbrev pub nothing_lost : LostParts
nothing_lost = record { own = λ _. None; behind = λ _. None }

-- ---- of a damaged file, of which these nodes are left, over the blocks without fault, beside these pages with a fault

abbrev pub own_lost : Table → List NodeEntry → List Broken → ℕ → Option Fault
own_lost t nodes broken nid = if_there (node_damage t nodes broken) (node_with nid nodes)

-- An identifier lies behind a page only where no node that is left has it.
abbrev pub fault_of_page : Broken → Fault
fault_of_page page = page.fault

abbrev pub behind_lost : List NodeEntry → List Broken → ℕ → Option Fault
behind_lost nodes broken nid = if is_none (node_with nid nodes) then option_map fault_of_page (page_before broken nid) else None

abbrev pub lost_of : Table → List NodeEntry → List Broken → LostParts
lost_of t nodes broken = record { own = own_lost t nodes broken; behind = behind_lost nodes broken }
