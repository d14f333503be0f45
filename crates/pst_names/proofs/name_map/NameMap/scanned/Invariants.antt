use Rattle.std.proofs.Common.{◌≡◌, ◌-◌, ◌*◌, ◌≤◌}
use Rattle.pst_bytes.specs.Image.{bytes_of}
use Rattle.pst_datatree.specs.Spans.{joined_bytes}
use Rattle.pst_ndb.specs.Views.{image_of_node, table_of_node, roots_of}
use Rattle.pst_names.specs.declared.streams.TheConstants.{ENTRIES}
use Rattle.pst_names.specs.Streams.{stream_spans}
use Rattle.pst_names.specs.Entry.{entry_with, prop_id}
use Rattle.pst_names.specs.Name.{naming_entry}
use Rattle.pst_names.specs.Behind.{IsBehind}
use Rattle.pst_names.specs.Rest.{rest_file, rest_spans}
use Rattle.pst_names.specs.View.{node_of_names}
use Rattle.pst_names.proofs.FoundLemmas.{found_from}
use Rattle.pst_names.proofs.name_map.NameMap.scanned.Given as goal

-- what is found among the entries that are left is what is found among all
abbrev pub invariant-loop-number : goal.invariant-loop-number
invariant-loop-number l =
    let node = node_of_names l.self in
    let I = bytes_of (image_of_node node) in
    let all = stream_spans (table_of_node node) (roots_of node) ENTRIES in
    record {
      most : l.number ≤ l.count;
      behind : IsBehind I all (8 * l.number) (rest_spans l.rest);
      file : rest_file l.rest ≡ I;
      left : found_from prop_id l.id (entry_with all (joined_bytes I all)) l.number l.count ≡ naming_entry (table_of_node node) (roots_of node) l.id;
    }

abbrev pub decreases-loop-number : goal.decreases-loop-number
decreases-loop-number l = l.count - l.number
