use Rattle.std.proofs.Common.{◌+◌, ◌-◌, ◌/◌, arith}
use Rattle.pst_bytes.specs.Image.{bytes_of}
use Rattle.pst_subnode.proofs.GuessLemmas.{entry_there}
use Rattle.pst_subnode.proofs.guess.guess_of_entries.Goals as goal

pub returns-then-sub-nid-clause-there : goal.returns-then-sub-nid-clause-there
returns-then-sub-nid-clause-there c =
    let middle = c.loop-low.low + (c.loop-low.high - c.loop-low.low) / 2 in
    rw c.sub_at-sub.ensures (entry_there (bytes_of c.args.body) middle (omega (arith, c.loop-low.invariant, c.loop-low-test.true)))
