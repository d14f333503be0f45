use Rattle.std.proofs.Common.{◌∙◌, ap}
use Rattle.std.specs.Prelude.{length}
use Rattle.pst_plain.specs.Twin.{data_decoded}
use Rattle.pst_plain.proofs.TwinLemmas.{twin_made, blocks_made, method_restored}
use Rattle.pst_plain.proofs.twin.decode_file.Goals as goal

pub returns-in-Ok-clause-twin : goal.returns-in-Ok-clause-twin
returns-in-Ok-clause-twin c =
    twin_made c.args.file.now c.set_method.new.file c.decode_data.new.file c.args.method c.deref.result.now c.requires.method c.set_method.ensures
    (c.deref.ensures.value ∙ c.in-Ok.ensures.blocks) (c.decode_data.ensures.file ∙ ap (λ m. data_decoded m c.deref.result.now c.set_method.new.file) c.requires.codec)

pub returns-in-Ok-clause-blocks : goal.returns-in-Ok-clause-blocks
returns-in-Ok-clause-blocks c =
    c.decode_data.ensures.count
    ∙ ap length (blocks_made c.args.file.now c.set_method.new.file c.args.method c.deref.result.now c.requires.method c.set_method.ensures (c.deref.ensures.value ∙ c.in-Ok.ensures.blocks))

pub returns-in-Err-clause-same : goal.returns-in-Err-clause-same
returns-in-Err-clause-same c =
    method_restored c.args.file.now c.set_method.new.file c.set_method-in-Err.new.file c.args.method c.number.result c.requires.long c.are_bytes.ensures c.requires.method c.set_method.ensures
    c.number.ensures c.set_method-in-Err.ensures
