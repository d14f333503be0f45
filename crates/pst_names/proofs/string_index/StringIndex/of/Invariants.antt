use Rattle.std.proofs.Common.{◌≡◌, ◌-◌, ◌≤◌}
use Rattle.std.specs.List.{All}
use Rattle.pst_bytes.specs.Image.{bytes_of}
use Rattle.pst_datatree.specs.Shown.{bytes_in}
use Rattle.pst_ndb.specs.Views.{image_of_node, table_of_node, roots_of}
use Rattle.pst_pc.specs.View.{node_of_pc}
use Rattle.pst_names.specs.declared.streams.TheConstants.{STRINGS}
use Rattle.pst_names.specs.Streams.{stream_spans}
use Rattle.pst_names.specs.Behind.{IsBehind}
use Rattle.pst_names.specs.Rest.{rest_file, rest_spans}
use Rattle.pst_names.specs.Stretch.{IsStretchOf}
use Rattle.pst_names.proofs.string_index.StringIndex.of.Given as goal

-- the stretches so far, and what is left behind them
abbrev pub invariant-loop-start : goal.invariant-loop-start
invariant-loop-start l =
    let node = node_of_pc l.pc in
    let I = bytes_of (image_of_node node) in
    record {
      most : l.start ≤ l.len;
      behind : IsBehind I (stream_spans (table_of_node node) (roots_of node) STRINGS) l.start (rest_spans l.rest);
      file : rest_file l.rest ≡ I;
      are : All (λ s. IsStretchOf (bytes_in l.value) s) l.stretches.items;
    }

abbrev pub decreases-loop-start : goal.decreases-loop-start
decreases-loop-start l = l.len - l.start
