use Rattle.std.proofs.Common.{◌<◌, length, refl, arith, rules}
use Rattle.pst_plain.proofs.BodyLemmas.{xor_on, xor_all}
use Rattle.pst_plain.proofs.body.xor_bytes.Goals as goal

pub loop-i-preserved : goal.loop-i-preserved
loop-i-preserved c =
    let here : c.loop-i.i < length c.loop-i.bytes = omega (arith, c.loop-i-test.true, c.requires, c.loop-i.invariant.same) in
    record {
      same = search rules;
      all = xor_on c.loop-i.i _ c.loop-i.bytes c.args.others.now _ here c.loop-i-test.true refl c.loop-i.invariant.all;
    }

pub returns : goal.returns
returns c = xor_all c.loop-i.i c.loop-i.bytes c.args.others.now _ (omega (arith, c.loop-i-test.false, c.requires, c.loop-i.invariant.same)) c.loop-i.invariant.all
