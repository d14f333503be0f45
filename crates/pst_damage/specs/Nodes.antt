-- All that is broken of the nodes of a damaged file: of those that are left, over the blocks without fault.
use Rattle.std.specs.Prelude.{ℕ, ◌&&◌, List, Option, is_none, if◌then◌else◌}
use Rattle.pst_fault.specs.declared.fault.Fault.{Fault}
use Rattle.pst_fault.specs.declared.kind.Kind.TheVariants.{NodeMissing}
use Rattle.pst_fault.specs.First.{◌then◌}
use Rattle.pst_page.specs.declared.entry.NodeEntry.{NodeEntry}
use Rattle.pst_btree.specs.Entries.{node_with}
use Rattle.pst_block.specs.Table.{Table}
use Rattle.pst_ndb.specs.Fault.{node_fault}
use Rattle.pst_ndb.specs.Roots.{entry_roots}
use Rattle.pst_remains.specs.declared.pages.Broken.{Broken}
use Rattle.pst_remains.specs.Pages.{page_before}
use Rattle.pst_msg.specs.pst_mail.declared.nid.TheConstants.{STORE, ROOT}
use Rattle.pst_msg.specs.Nid.{named}
use Rattle.pst_damage.specs.declared.broken.BrokenNode.{BrokenNode}
use Rattle.pst_damage.specs.declared.whole.Whole.{Whole}
use Rattle.pst_damage.specs.Folder.{asked_damage}
use Rattle.pst_damage.specs.Judged.{sound_by, broken_by}
use Rattle.pst_damage.specs.Order.{put_in}
use Rattle.pst_damage.specs.Whole.{whole_of}

-- The first fault of a node: of its data, then of its subnodes; where they have none, of what is asked of it.
unfoldable pub node_damage : Table → List NodeEntry → List Broken → NodeEntry → Option Fault
node_damage t nodes broken e = node_fault t e then asked_damage t nodes broken (entry_roots e)

-- ---- what is told, in the order of the nodes' identifiers

-- a node that every store has is missing
abbrev pub missing : ℕ → BrokenNode
missing nid = record { nid = nid; fault = named NodeMissing 0 0 nid }

-- It is told where it is not among the nodes that are left, and does not lie behind a broken page.
abbrev pub with_required : List NodeEntry → List Broken → ℕ → List BrokenNode → List BrokenNode
with_required nodes broken nid told =
    if is_none (node_with nid nodes) && is_none (page_before broken nid) then put_in (missing nid) told else told

-- The broken nodes; and the node of the store and that of the root folder, where they are missing.
unfoldable pub nodes_damage : Table → List NodeEntry → List Broken → List BrokenNode
nodes_damage t nodes broken =
    with_required nodes broken ROOT (with_required nodes broken STORE (broken_by (node_damage t nodes broken) nodes))

-- ---- what is whole

-- the nodes that are left and have no fault
unfoldable pub whole_left : Table → List NodeEntry → List Broken → Whole
whole_left t nodes broken = whole_of (sound_by (node_damage t nodes broken) nodes)
