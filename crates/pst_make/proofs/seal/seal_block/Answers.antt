use Rattle.std.proofs.Common.{◌∙◌, ap}
use Rattle.pst_crc.specs.Crc.{crc, signature_of}
use Rattle.pst_make.proofs.SealLemmas.{block_sealed}
use Rattle.pst_make.proofs.seal.seal_block.Goals as goal

pub returns-clause-sealed : goal.returns-clause-sealed
returns-clause-sealed c = block_sealed c.args.image.now c.put16.new.image c.put32.new.image c.args.at c.args.cb c.block_size.result c.block_size.ensures
    (c.put16.ensures.value ∙ c.signature-signature.ensures ∙ ap (signature_of c.args.at) (rw c.new-block.ensures.bytes at c.number64.ensures)) c.put16.ensures.others
    (c.put32.ensures.value ∙ c.check-check.ensures ∙ ap crc (rw (c.new-block.ensures.bytes, c.from.ensures) at c.slice.ensures.value)) c.put32.ensures.others
