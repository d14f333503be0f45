use Rattle.std.proofs.Common.{◌≡◌, ◌+◌, ◌-◌, arith}
use Rattle.pst_bytes.specs.Image.{bytes_of}
use Rattle.pst_btree.proofs.FromLemmas.{left_stretch}
use Rattle.pst_btree.proofs.nodes.NodesIterator.next.Goals as goal

-- what is left of the leaf behind the entry that is taken
pub invariant_of-self : goal.invariant_of-self
invariant_of-self c =
    let view = c.args.self.now.view in
    let found = c.in_ok-found.found in
    let less : found.count ≡ (found.count - 1) + 1 = omega (arith, c.in_ok-found.ensures.some) in
    record {
      kind = c.args.self.now.kind;
      stretch = rw (c.key_at-key.ensures.value, c.from.ensures) (left_stretch view.kind (bytes_of view.image) view.end view.level view.root c.args.self.now.low found.at found.width found.count (found.count - 1) view.spelt c.in_ok-found.ensures.stretch less);
    }
