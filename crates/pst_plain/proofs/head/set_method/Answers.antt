use Rattle.pst_plain.proofs.StepLemmas.{head_made}
use Rattle.pst_plain.proofs.head.set_method.Goals as goal

pub returns : goal.returns
returns c = head_made c.args.file.now c.put_bytes.new.file c.carry.new.file c.args.number c.full_check-old.result c.full_check-new.result
    c.full_check-old.ensures c.put_bytes.ensures c.full_check-new.ensures c.carry.ensures
