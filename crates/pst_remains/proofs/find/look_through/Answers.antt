use Rattle.std.proofs.Common.{refl}
use Rattle.pst_bytes.specs.Image.{bytes_of}
use Rattle.pst_header.specs.Header.{end_of}
use Rattle.pst_header.proofs.Head.{mapped_end}
use Rattle.pst_remains.specs.Pages.{leaf_entries}
use Rattle.pst_remains.proofs.BlockLemmas.{sorted_rises, sorted_sound}
use Rattle.pst_remains.proofs.NodeLemmas.{nodes_rise}
use Rattle.pst_remains.proofs.RemainsLemmas.{gathered}
use Rattle.pst_remains.proofs.find.look_through.Goals as goal

pub invariant_of-remains : goal.invariant_of-remains
invariant_of-remains c =
    let I = bytes_of c.args.image in
    let sorted = rw c.deref.ensures.value at c.in_ok-sorted.ensures.left in
    let nodes = rw c.deref-2.ensures.value at c.in_ok-nodes.ensures in
    record {
      inside = rw c.end-end.ensures (mapped_end I c.args.header.now c.requires.mapped);
      sound = rw c.end-end.ensures (sorted_sound (end_of c.args.header.now) I _ _ _ _ _ sorted);
      block_keys = sorted_rises (end_of c.args.header.now) I _ _ (leaf_entries I c.in_ok-first.first.leaves.items) _ _ sorted c.in_ok-first.ensures.keys;
      node_keys = nodes_rise I (leaf_entries I c.in_ok-second.second.leaves.items) _ nodes c.in_ok-second.ensures.keys;
    }

pub returns-clause-exact : goal.returns-clause-exact
returns-clause-exact c =
    let I = bytes_of c.args.image in
    let sorted = rw c.deref.ensures.value at c.in_ok-sorted.ensures.left in
    let nodes = rw c.deref-2.ensures.value at c.in_ok-nodes.ensures in
    let pages = rw (c.deref-3.ensures.value, c.deref-4.ensures.value) at c.in_ok-pages.ensures in
    gathered I _ _ _ _ _ _ _ c.args.header.now _ _ _ _ _ _ _ _ c.requires.maps c.requires.header c.in_ok-claims.ensures.maps c.in_ok-first.ensures.left c.in_ok-second.ensures.left sorted
    c.header_damage-header_fault.ensures c.in_ok-maps.ensures.exact pages nodes refl
