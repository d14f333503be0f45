use Rattle.std.proofs.Common.{arith}
use Rattle.pst_names.proofs.strings.Strings.number.Goals as goal

pub unwrap-part-requires : goal.unwrap-part-requires
unwrap-part-requires c = c.part.ensures.there.1 (omega arith, omega (arith, c.requires, c.len-len.ensures.size, c.len-len.ensures.bytes))
