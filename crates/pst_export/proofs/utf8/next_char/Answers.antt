use Rattle.std.proofs.Common.{◌<◌, ◌≤◌, ◌∷◌, ◌∙◌, ap, sym, arith}
use Rattle.std.specs.Char.Utf16.{utf16_lossy_chars}
use Rattle.pst_value.specs.Units.{units_of}
use Rattle.pst_export.specs.Text.{text_bytes}
use Rattle.pst_export.proofs.TextLemmas.{high_next, low_next, second_next}
use Rattle.pst_export.proofs.utf8.next_char.Goals as goal
use Rattle.pst_export.proofs.utf8.next_char.Goals.{then-unit-lt-FIRST-via-then-unit-lt-FIRST, then-unit-lt-FIRST-via-else-unit-lt-FIRST+then-unit-ge-BEHIND}

pub returns-then-unit-lt-FIRST-clause-next : goal.returns-then-unit-lt-FIRST-clause-next
returns-then-unit-lt-FIRST-clause-next c =
    let u = c.in_ok-unit.unit in
    let left = units_of (text_bytes c.args.units.now) in
    let behind = units_of (text_bytes c.next_unit.new.self) in
    let same = ap (λ x. x ∷ utf16_lossy_chars behind) (sym (c.char_of.ensures ∙ c.from.ensures)) in
    elim c.then-unit-lt-FIRST.branch [
      | then-unit-lt-FIRST-via-then-unit-lt-FIRST w ↦ let low : u < 0xD800 = omega arith in low_next u left behind c.in_ok-unit.ensures.next low ∙ same
      | then-unit-lt-FIRST-via-else-unit-lt-FIRST+then-unit-ge-BEHIND w ↦ let high : 0xE000 ≤ u = omega arith in high_next u left behind c.in_ok-unit.ensures.next high ∙ same
    ]

pub returns-then-unit-ge-SECOND-clause-next : goal.returns-then-unit-ge-SECOND-clause-next
returns-then-unit-ge-SECOND-clause-next c =
    let u = c.in_ok-unit.unit in
    let from : 0xDC00 ≤ u = omega arith in
    let to : u < 0xE000 = omega arith in
    second_next u (units_of (text_bytes c.args.units.now)) (units_of (text_bytes c.next_unit.new.self)) c.in_ok-unit.ensures.next from to
