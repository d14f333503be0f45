use Rattle.std.proofs.Common.{◌≡◌, Some, None}
use Rattle.pst_ndb.specs.Views.{table_of_node}
use Rattle.pst_ndb.specs.Views.{roots_of}
use Rattle.pst_heap.specs.Values.{item_of}
use Rattle.pst_heap.specs.Values.{user_root_of}
use Rattle.pst_heap.specs.Values.{heap_at}
use Rattle.pst_tc.specs.Tc.{node_of_tc}
use Rattle.pst_tc.proofs.TcLemmas.{table_sound, info_there}
use Rattle.pst_tc.proofs.tc.Tc.info.Goals as goal

pub unreachable-requires : goal.unreachable-requires
unreachable-requires c =
    let t = table_of_node (node_of_tc c.args.self.now) in
    let r = roots_of (node_of_tc c.args.self.now) in
    let is : None ≡ item_of (heap_at t r) (user_root_of (heap_at t r)) = rw c.user_root.ensures at c.in-None.ensures.value in
    info_there t r c.args.self.now.sound is

pub returns-clause-sound : goal.returns-clause-sound
returns-clause-sound c =
    let t = table_of_node (node_of_tc c.args.self.now) in
    let r = roots_of (node_of_tc c.args.self.now) in
    let is : Some c.in-Some.info ≡ item_of (heap_at t r) (user_root_of (heap_at t r)) = rw c.user_root.ensures at c.in-Some.ensures.value in
    table_sound t r c.in-Some.info c.args.self.now.sound is
