use Rattle.std.proofs.Common.{rules, ◌≡◌, Some}
use Rattle.pst_block.specs.Block.{bid_key}
use Rattle.pst_ndb.specs.Roots.{subnode_of}
use Rattle.pst_ndb.specs.Views.{table_of_node, roots_of}
use Rattle.pst_heap.specs.View.{node_of}
use Rattle.pst_value.specs.declared.hnid.Hnid.TheVariants.{Nothing, Item, Subnode}
use Rattle.pst_value.specs.Hnid.{hnid_of}
use Rattle.pst_tc.specs.Info.{matrix_hnid}
use Rattle.pst_tc.proofs.AskLemmas.{nothing_asked, item_asked, blocks_asked}
use Rattle.pst_tc.proofs.ask.matrix_ask.Goals as goal

pub returns-in-Nothing : goal.returns-in-Nothing
returns-in-Nothing c =
    let t = table_of_node (node_of c.args.heap.now) in
    let same : c.number32-hnid.result ≡ matrix_hnid t.image c.args.info = cc (c.number32-hnid.ensures, c.image.ensures.bytes) in
    let is : hnid_of c.number32-hnid.result ≡ Nothing = search rules in
    nothing_asked t (roots_of (node_of c.args.heap.now)) c.args.info c.number32-hnid.result c.requires.sound same is

pub returns-in-Item : goal.returns-in-Item
returns-in-Item c =
    let t = table_of_node (node_of c.args.heap.now) in
    let same : c.number32-hnid.result ≡ matrix_hnid t.image c.args.info = cc (c.number32-hnid.ensures, c.image.ensures.bytes) in
    let is : hnid_of c.number32-hnid.result ≡ Item c.in-Item.field-0 = search rules in
    item_asked t (roots_of (node_of c.args.heap.now)) c.args.info c.number32-hnid.result c.in-Item.field-0 c.requires.sound same is

pub returns-in-Some : goal.returns-in-Some
returns-in-Some c =
    let node = node_of c.args.heap.now in
    let t = table_of_node node in
    let x = roots_of c.in-Some.sub in
    let same : c.number32-hnid.result ≡ matrix_hnid t.image c.args.info = cc (c.number32-hnid.ensures, c.image.ensures.bytes) in
    let is : hnid_of c.number32-hnid.result ≡ Subnode c.in-Subnode.nid = search rules in
    let there : Some x ≡ subnode_of t (roots_of node) c.in-Subnode.nid = rw c.node.ensures at c.in-Some.ensures.roots in
    let key : c.key_of.result ≡ bid_key x.bid_data = search rules in
    rw key (blocks_asked t (roots_of node) x c.args.info c.number32-hnid.result c.in-Subnode.nid c.requires.sound same is there)
