use Rattle.std.proofs.Common.{◌++◌, length}
use Rattle.pst_json.proofs.OutputLemmas.{Written}
use Rattle.pst_value_json.specs.pst_datatree.Shown.{bytes_in}
use Rattle.pst_value_json.specs.pst_text.Text.{utf8_of}
use Rattle.pst_export.specs.Text.{text_bytes, text_utf8}
use Rattle.pst_export.proofs.utf8.emit_utf8.Given as goal

-- a front of the text is written, some is gathered, and the rest is left
abbrev pub invariant-loop-c : goal.invariant-loop-c
invariant-loop-c g l = record {
  left : Written (g.W.Write.contents l.initial.out) (g.W.Write.contents l.out) (utf8_of (bytes_in l.fn.value)) (l.chunk.items ++ text_utf8 l.units);
}

abbrev pub decreases-loop-c : goal.decreases-loop-c
decreases-loop-c g l = length (text_bytes l.units)
