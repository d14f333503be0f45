use Rattle.std.proofs.Common.{rules, ◌≡◌, suc, ◌+◌, ◌-◌, ◌++◌, false, drop, set, ap, ◌∙◌, arith}
use Rattle.std.specs.Fmt.{digit_glyph}
use Rattle.std.proofs.lemmas.List.{take_all, length-drop, length-set}
use Rattle.pst_text.proofs.DigitLemmas.{room_left, digit_spelt, all_spelt}
use Rattle.pst_text.proofs.digits.put_number.Goals as goal

pub loop-left-preserved : goal.loop-left-preserved
loop-left-preserved c =
    let kept = c.loop-left.invariant in
    let next : suc (c.loop-left.first - 1) ≡ c.loop-left.first = omega (arith, kept.0) in
    let room = room_left c.loop-left.left (c.loop-left.first - 1) (search rules) (rw next kept.3) in
    let digits = c.loop-left.digits in
    let place : c.loop-left.first - 1 + 1 ≡ c.loop-left.first = omega (arith, kept.0) in
    (room.0, omega (arith, kept.1), search rules, room.1, rw c.digit.ensures (digit_spelt c.args.number c.loop-left.left (c.loop-left.first - 1) digits (search rules) (search rules) (omega (arith, kept.0, kept.1, kept.2)) (rw place kept.4)))

pub returns-clause-put : goal.returns-clause-put
returns-clause-put c =
    let kept = c.loop-left.invariant in
    let digits = c.loop-left.digits in
    let place : c.loop-left.first - 1 + 1 ≡ c.loop-left.first = omega (arith, kept.0) in
    let spelt = all_spelt c.args.number c.loop-left.left (c.loop-left.first - 1) digits (search rules) (omega (arith, kept.0, kept.1, kept.2)) (rw place kept.4) in
    let put = set digits (c.loop-left.first - 1) (digit_glyph false c.loop-left.left) in
    let whole = take_all (8 - (c.loop-left.first - 1)) (drop (c.loop-left.first - 1) put) (omega (arith, kept.0, kept.1, kept.2, length-drop (c.loop-left.first - 1) put, length-set digits (c.loop-left.first - 1) (digit_glyph false c.loop-left.left))) in
    c.in_ok-extend_from_slice.ensures.items ∙ ap (λ l. c.args.text.now.items ++ l) (rw c.digit-2.ensures (whole ∙ spelt))
