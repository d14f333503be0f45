use Rattle.pst_plain.proofs.TwinLemmas.{method_long, method_restored}
use Rattle.pst_remains.proofs.DecodedLemmas.{plain_long}
use Rattle.pst_remains.proofs.decoded.look_plain.Goals as goal

pub set_method-requires : goal.set_method-requires
set_method-requires c = method_long c.args.file.now c.args.method c.requires.method

pub look-requires : goal.look-requires
look-requires c = rw c.set_method.ensures (plain_long c.args.file.now c.args.method c.are_bytes.ensures c.requires.method)

pub set_method-requires-in-Err : goal.set_method-requires-in-Err
set_method-requires-in-Err c = rw c.set_method.ensures (plain_long c.args.file.now c.args.method c.are_bytes.ensures c.requires.method)

pub returns-in-Err-clause-same : goal.returns-in-Err-clause-same
returns-in-Err-clause-same c =
    method_restored c.args.file.now c.set_method.new.file c.set_method-in-Err.new.file c.args.method c.number.result (method_long c.args.file.now c.args.method c.requires.method) c.are_bytes.ensures c.requires.method
    c.set_method.ensures c.number.ensures c.set_method-in-Err.ensures
