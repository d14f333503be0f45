-- What is whole of a damaged file.
use Rattle.std.specs.Prelude.{Bool, List, length}
use Rattle.std.specs.List.{count_by}
use Rattle.pst_page.specs.declared.entry.NodeEntry.{NodeEntry}
use Rattle.pst_msg.specs.Values.{is_folder, is_message}
use Rattle.pst_damage.specs.declared.broken.BrokenNode.{BrokenNode}
use Rattle.pst_damage.specs.declared.whole.Whole.{Whole}

abbrev pub folder_entry : NodeEntry → Bool
folder_entry e = is_folder e.nid

abbrev pub message_entry : NodeEntry → Bool
message_entry e = is_message e.nid

-- how many nodes without fault there are; and how many of these are folders or search folders, and messages
abbrev pub whole_of : List NodeEntry → Whole
whole_of sound = record { nodes = length sound; folders = count_by folder_entry sound; messages = count_by message_entry sound }

-- broken ones of these types
abbrev pub folder_node : BrokenNode → Bool
folder_node b = is_folder b.nid

abbrev pub message_node : BrokenNode → Bool
message_node b = is_message b.nid
