use Rattle.std.proofs.Common.{◌≡◌, ◌-◌, ◌*◌, ◌≤◌}
use Rattle.pst_bytes.specs.Image.{bytes_of}
use Rattle.pst_datatree.specs.Spans.{joined_bytes}
use Rattle.pst_ndb.specs.Views.{image_of_node, table_of_node, roots_of}
use Rattle.pst_pc.specs.View.{node_of_pc}
use Rattle.pst_names.specs.declared.streams.TheConstants.{ENTRIES}
use Rattle.pst_names.specs.Streams.{stream_spans}
use Rattle.pst_names.specs.Entry.{entry_with}
use Rattle.pst_names.specs.Fault.{name_entry_fault, entries_fault}
use Rattle.pst_names.specs.Behind.{IsBehind}
use Rattle.pst_names.specs.Rest.{rest_file, rest_spans}
use Rattle.pst_names.specs.Known.{allows, AreRunsTrue}
use Rattle.pst_names.specs.Strings.{rule_guids, rule_strings}
use Rattle.pst_names.proofs.WalkLemmas.{left_from}
use Rattle.pst_names.proofs.check.bad_place.Given as goal

-- the entries that are left have the first fault of all, and all that is known is true
abbrev pub invariant-loop-number : goal.invariant-loop-number
invariant-loop-number l =
    let node = node_of_pc l.pc in
    let I = bytes_of (image_of_node node) in
    let all = stream_spans (table_of_node node) (roots_of node) ENTRIES in
    record {
      most : l.number ≤ l.count;
      behind : IsBehind I all (8 * l.number) (rest_spans l.rest);
      file : rest_file l.rest ≡ I;
      left : left_from (name_entry_fault (rule_guids l.rules) (rule_strings l.rules)) (entry_with all (joined_bytes I all)) l.number l.count ≡ entries_fault (table_of_node node) (roots_of node);
      known : AreRunsTrue (allows (rule_guids l.rules) (rule_strings l.rules)) I l.runs;
    }

abbrev pub decreases-loop-number : goal.decreases-loop-number
decreases-loop-number l = l.count - l.number
