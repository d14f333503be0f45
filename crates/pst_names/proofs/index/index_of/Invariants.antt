use Rattle.std.proofs.Common.{◌≡◌, ◌-◌, ◌*◌, ◌≤◌, ℕ}
use Rattle.pst_bytes.specs.Image.{bytes_of}
use Rattle.pst_datatree.specs.Spans.{joined_bytes}
use Rattle.pst_ndb.specs.Views.{image_of_node, table_of_node, roots_of}
use Rattle.pst_pc.specs.View.{node_of_pc}
use Rattle.pst_names.specs.declared.streams.TheConstants.{ENTRIES}
use Rattle.pst_names.specs.Streams.{stream_spans}
use Rattle.pst_names.specs.Entry.{entry_with, name_entries}
use Rattle.pst_names.specs.Behind.{IsBehind}
use Rattle.pst_names.specs.Index.{naming_fields, known_of, is_noted}
use Rattle.pst_names.specs.Known.{AreRunsTrue}
use Rattle.pst_names.specs.Rest.{rest_file, rest_spans}
use Rattle.pst_names.proofs.index.index_of.Given as goal

-- what is noted, with the entries that are left, names each property as all entries do
abbrev pub invariant-loop-number : goal.invariant-loop-number
invariant-loop-number l =
    let node = node_of_pc l.pc in
    let I = bytes_of (image_of_node node) in
    let all = stream_spans (table_of_node node) (roots_of node) ENTRIES in
    record {
      most : l.number ≤ l.count;
      behind : IsBehind I all (8 * l.number) (rest_spans l.rest);
      file : rest_file l.rest ≡ I;
      left : (id : ℕ) → known_of l.index id (name_entries (entry_with all (joined_bytes I all)) l.number (l.count - l.number)) ≡ naming_fields (table_of_node node) (roots_of node) id;
      known : AreRunsTrue (is_noted l.index) I l.runs;
    }

abbrev pub decreases-loop-number : goal.decreases-loop-number
decreases-loop-number l = l.count - l.number
