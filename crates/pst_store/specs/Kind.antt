-- Nodes of a kind, among all nodes.
use Rattle.std.specs.Prelude.{ℕ, Bool, Option, None, List, if◌then◌else◌}
use Rattle.std.specs.List.{filter}
use Rattle.pst_page.specs.declared.entry.NodeEntry.{NodeEntry}
use Rattle.pst_ndb.specs.Roots.{Roots, node_in}
use Rattle.pst_msg.specs.Values.{is_folder, is_message}
use Rattle.pst_store.specs.declared.sort.Sort.{Sort}
use Rattle.pst_store.specs.declared.sort.Sort.TheVariants.{Folders, Messages}

-- which nodes are sought
abbrev pub kind_of : Sort → ℕ → Bool
kind_of Folders nid = is_folder nid
kind_of Messages nid = is_message nid

-- those of a kind, in order
abbrev pub of_kind : (ℕ → Bool) → List Roots → List Roots
of_kind kind nodes = filter (λ (r : Roots). kind r.top) nodes

-- the node with an identifier, where that is of a kind
unfoldable pub node_of_kind : (ℕ → Bool) → List NodeEntry → ℕ → Option Roots
node_of_kind kind nodes nid = if kind nid then node_in nodes nid else None
