use Rattle.std.proofs.Common.{◌∙◌, ap, get_or}
use Rattle.std.specs.Char.{encode_utf8}
use Rattle.pst_text.proofs.CharacterLemmas.{spelt}
use Rattle.pst_text.proofs.eight.characters_at.Goals as goal

pub returns-clause-bytes : goal.returns-clause-bytes
returns-clause-bytes c k lt =
    let low = c.low_bytes.ensures in
    let high = c.high_bytes.ensures in
    (spelt (get_or c.units_at-units.result k 0) (get_or c.low_bytes.result k 0) (get_or c.high_bytes.result k 0) (c.units_at-units.ensures.small k lt)
    (low.one k lt) (low.two k lt) (low.three k lt) (high.one k lt) (high.two k lt) (high.three k lt)).0
    ∙ ap encode_utf8 (c.units_at-units.ensures.lanes k lt)

pub returns-clause-most : goal.returns-clause-most
returns-clause-most c k lt =
    let low = c.low_bytes.ensures in
    let high = c.high_bytes.ensures in
    (spelt (get_or c.units_at-units.result k 0) (get_or c.low_bytes.result k 0) (get_or c.high_bytes.result k 0) (c.units_at-units.ensures.small k lt)
    (low.one k lt) (low.two k lt) (low.three k lt) (high.one k lt) (high.two k lt) (high.three k lt)).1
