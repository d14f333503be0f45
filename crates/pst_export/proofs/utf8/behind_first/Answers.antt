use Rattle.std.proofs.Common.{◌≡◌, ◌∙◌, false, sym}
use Rattle.std.specs.Char.Utf16.{is_low_surrogate}
use Rattle.pst_value.specs.Units.{units_of}
use Rattle.pst_export.specs.Text.{text_bytes}
use Rattle.pst_export.proofs.TextLemmas.{first_ends, first_next}
use Rattle.pst_export.proofs.utf8.behind_first.Goals as goal
use Rattle.pst_export.proofs.utf8.behind_first.Goals.{in-Some+else-is_second, in_default}

pub returns-clause-next : goal.returns-clause-next
returns-clause-next c =
    elim c.match-next_unit.branch [
      | in-Some+else-is_second w ↦
          let none : is_low_surrogate w.in-Some.second ≡ false = sym w.is_second.ensures ∙ w.if-is_second.false in
          first_next c.args.unit w.in-Some.second (units_of (text_bytes c.args.units.now)) _ w.in-Some.ensures.next none c.requires.from c.requires.to
      | in_default w ↦ first_ends c.args.unit (units_of (text_bytes c.args.units.now)) w.in_default.ensures.none c.requires.from c.requires.to
    ]
