use Rattle.std.proofs.Common.{◌≡◌, ◌+◌, length}
use Rattle.pst_value_json.specs.pst_datatree.Shown.{bytes_in}
use Rattle.pst_value_json.specs.pst_text.Text.{utf8_of}
use Rattle.pst_export.specs.Text.{text_bytes, text_utf8}
use Rattle.pst_export.proofs.utf8.utf8_len.Given as goal

-- those so far, and those that are left
abbrev pub invariant-loop-c : goal.invariant-loop-c
invariant-loop-c l = l.count + length (text_utf8 l.units) ≡ length (utf8_of (bytes_in l.fn.value))

abbrev pub decreases-loop-c : goal.decreases-loop-c
decreases-loop-c l = length (text_bytes l.units)
