use Rattle.std.proofs.Common.{◌≡◌}
use Rattle.pst_value.proofs.UnitLemmas.{pieces_behind}
use Rattle.pst_export.specs.Text.{text_bytes}
use Rattle.pst_export.proofs.text.TextLeft.next_byte.Given as goal

-- what is left is the same, and empty pieces go by
abbrev pub invariant-loop-rest : goal.invariant-loop-rest
invariant-loop-rest l = text_bytes l.self ≡ text_bytes l.initial.self

abbrev pub decreases-loop-rest : goal.decreases-loop-rest
decreases-loop-rest l = pieces_behind l.self.rest
