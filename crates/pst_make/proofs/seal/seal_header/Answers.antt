use Rattle.std.proofs.Common.{◌∙◌, ap}
use Rattle.pst_crc.specs.Crc.{crc}
use Rattle.pst_make.proofs.SealLemmas.{header_sealed}
use Rattle.pst_make.proofs.seal.seal_header.Goals as goal

pub returns-clause-sealed : goal.returns-clause-sealed
returns-clause-sealed c = header_sealed c.args.image.now c.put32.new.image c.put32-2.new.image
    (c.put32.ensures.value ∙ c.check-partial.ensures ∙ ap crc (rw c.new.ensures.bytes at c.slice.ensures.value)) c.put32.ensures.others
    (c.put32-2.ensures.value ∙ c.check-full.ensures ∙ ap crc (rw c.new-2.ensures.bytes at c.slice-2.ensures.value)) c.put32-2.ensures.others
