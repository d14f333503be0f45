use Rattle.std.proofs.Common.{◌∙◌, ◌<◌, get_or, length, ap, arith}
use Rattle.std.specs.Prelude.{slice_set}
use Rattle.std.proofs.lemmas.List.{get_or_default}
use Rattle.std.proofs.lemmas.List.Edits.{map_over_more}
use Rattle.pst_encoding.specs.Tables.{i_of}
use Rattle.pst_encoding.proofs.permute.unpermute.Goals as goal

pub loop-byte-preserved : goal.loop-byte-preserved
loop-byte-preserved c =
    let now = c.loop-byte.bytes in
    let i = c.loop-byte.byte-index in
    let within : i < length now = omega (arith, c.loop-byte-test.true, c.loop-byte.auto.bytes) in
    ap (slice_set now i) c.i_of.ensures
    ∙ map_over_more i_of c.args.bytes.now now i (get_or now i 0) (omega (arith, c.loop-byte-test.true)) c.loop-byte.invariant (get_or_default now i 0 (get_or now i 0) within)
