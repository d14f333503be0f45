use Rattle.std.proofs.Common.{arith}
use Rattle.pst_crc.proofs.Words.{sixteen_is}
use Rattle.pst_crc.proofs.after_sixteen.Goals as goal

pub returns : goal.returns
returns c =
    rw (c.after_words.ensures, c.read_u64.ensures, c.read_u64-2.ensures, c.split_at.ensures.front, c.split_at.ensures.back)
    (sixteen_is c.args.register c.args.bytes.now c.requires (λ i. omega (arith, c.type_inv.bytes i)))
