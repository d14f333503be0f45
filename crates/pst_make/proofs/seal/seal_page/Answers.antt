use Rattle.std.proofs.Common.{◌∙◌, ap}
use Rattle.pst_crc.specs.Crc.{crc}
use Rattle.pst_make.proofs.SealLemmas.{page_sealed}
use Rattle.pst_make.proofs.seal.seal_page.Goals as goal

pub returns-clause-sealed : goal.returns-clause-sealed
returns-clause-sealed c = page_sealed c.args.image.now c.put16.new.image c.put32.new.image c.args.at
    (c.put16.ensures.value ∙ rw c.new-page.ensures.bytes at c.page_signature-signature.ensures) c.put16.ensures.others
    (c.put32.ensures.value ∙ c.check-check.ensures ∙ ap crc (rw c.new-page.ensures.bytes at c.slice.ensures.value)) c.put32.ensures.others
