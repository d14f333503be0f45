use Rattle.std.proofs.Common.{◌≡◌}
use Rattle.pst_ndb.specs.Views.{table_of_node, roots_of}
use Rattle.pst_tc.specs.Info.{index_hid}
use Rattle.pst_tc.specs.Tc.{node_of_tc}
use Rattle.pst_tc.proofs.RowLemmas.{body_index}
use Rattle.pst_tc.proofs.front.Front.index.Goals as goal

pub known_bth-requires-clause-sound : goal.known_bth-requires-clause-sound
known_bth-requires-clause-sound c =
    let t = table_of_node (node_of_tc c.args.self.now.tc) in
    let r = roots_of (node_of_tc c.args.self.now.tc) in
    let hid : c.number32-hid.result ≡ index_hid t.image c.args.self.now.item = rw c.image.ensures.bytes at c.number32-hid.ensures in
    rw hid (body_index t r c.args.self.now.item c.args.self.now.sound)
