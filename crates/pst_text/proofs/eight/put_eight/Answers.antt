use Rattle.std.proofs.Common.{rules}
use Rattle.pst_text.proofs.UnitLemmas.{eight_put}
use Rattle.pst_text.proofs.eight.put_eight.Goals as goal

pub returns-then-ascii_among-eq8-clause-put : goal.returns-then-ascii_among-eq8-clause-put
returns-then-ascii_among-eq8-clause-put c =
    let ascii = c.ascii_among.ensures c.if-ascii_among-eq8.true in
    eight_put c.args.bytes.now c.args.at c.lower_bytes.result c.args.text.now.items c.extend_from_slice.new.self.items c.requires.within
    ascii (λ k lt. c.requires.plain k lt (ascii k lt)) (search rules) c.lower_bytes.ensures c.in_ok-extend_from_slice.ensures.items
