use Rattle.std.proofs.Common.{◌∙◌, ◌<◌, get_or, length, ap, arith}
use Rattle.std.specs.Prelude.{slice_set}
use Rattle.std.proofs.lemmas.List.{get_or_default}
use Rattle.std.proofs.lemmas.List.Edits.{map_over_more}
use Rattle.pst_encoding.specs.Cyclic.{turned}
use Rattle.pst_encoding.proofs.cyclic.turn.Goals as goal

pub loop-byte-preserved : goal.loop-byte-preserved
loop-byte-preserved c =
    let now = c.loop-byte.bytes in
    let i = c.loop-byte.byte-index in
    let within : i < length now = omega (arith, c.loop-byte-test.true, c.loop-byte.auto.bytes) in
    ap (slice_set now i) c.entry.ensures
    ∙ map_over_more (turned c.args.high) c.args.bytes.now now i (get_or now i 0) (omega (arith, c.loop-byte-test.true)) c.loop-byte.invariant (get_or_default now i 0 (get_or now i 0) within)
