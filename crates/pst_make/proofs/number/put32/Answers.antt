use Rattle.std.proofs.Common.{arith}
use Rattle.pst_make.proofs.WriteLemmas.{num_written, elsewhere_written}
use Rattle.pst_make.proofs.number.put32.Goals as goal

pub returns-clause-value : goal.returns-clause-value
returns-clause-value c = num_written c.args.image.now c.put_bytes.new.image c.args.at 4 c.args.number (rw c.to_le_bytes.ensures at c.put_bytes.ensures) c.requires (omega (arith, c.ranges.number))

pub returns-clause-others : goal.returns-clause-others
returns-clause-others c = elsewhere_written c.args.image.now c.put_bytes.new.image c.args.at 4 c.args.number (rw c.to_le_bytes.ensures at c.put_bytes.ensures) c.requires
