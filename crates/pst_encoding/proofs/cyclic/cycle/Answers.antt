use Rattle.std.proofs.Common.{◌%◌, ◌∙◌, refl, ap}
use Rattle.pst_encoding.specs.Cyclic.{lowered, turned_each}
use Rattle.pst_encoding.proofs.PassLemmas.{three_passes}
use Rattle.pst_encoding.proofs.cyclic.cycle.Goals as goal

pub returns : goal.returns
returns c =
    let low = c.args.key % 256 in
    c.lower.ensures ∙ ap (lowered low) (c.turn_each.ensures ∙ ap (turned_each c.args.key) c.raise.ensures) ∙ three_passes c.args.key low c.args.bytes.now refl
