use Rattle.std.proofs.Common.{◌≡◌}
use Rattle.pst_ndb.specs.Views.{table_of_node, roots_of}
use Rattle.pst_heap.specs.Values.{user_root_of, heap_at}
use Rattle.pst_pc.specs.View.{node_of_pc}
use Rattle.pst_pc.proofs.PcLemmas.{has_bth}
use Rattle.pst_pc.proofs.pc.Pc.bth.Goals as goal

pub known_bth-requires-clause-sound : goal.known_bth-requires-clause-sound
known_bth-requires-clause-sound c =
    let t = table_of_node (node_of_pc c.args.self.now) in
    let r = roots_of (node_of_pc c.args.self.now) in
    let root : c.user_root.result ≡ user_root_of (heap_at t r) = rw c.heap-heap.ensures at c.user_root.ensures in
    rw (c.heap-heap.ensures, root) (has_bth t r c.args.self.now.sound)
