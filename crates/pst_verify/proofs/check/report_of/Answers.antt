use Rattle.pst_bytes.specs.Image.{bytes_of}
use Rattle.pst_ndb.specs.Views.{image_of_ndb, header_of, table_of_ndb, nodes_of}
use Rattle.pst_verify.proofs.VerifyLemmas.{IsWork, AreFound, report_is}
use Rattle.pst_verify.proofs.check.report_of.Goals as goal

pub returns : goal.returns
returns c =
    let ndb = c.args.ndb.now in
    let t = table_of_ndb ndb in
    let nodes = nodes_of ndb in
    let I = bytes_of (image_of_ndb ndb) in
    let sound = c.is_sound.ensures in
    let asked = c.requires in
    let counts = c.count_nodes-counts.ensures in
    let done : IsWork I t nodes c.args.work = record {
      pages = asked.pages;
      sums = asked.sums;
      expansions = asked.expansions;
      contexts = asked.contexts;
      walked = asked.walked;
    } in
    let found : AreFound t nodes c.args.reached c.args.unreached = record { all = asked.reached; others = asked.unreached } in
    report_is I (header_of ndb) t nodes c.args.map c.args.work c.count_nodes-counts.result c.args.reached c.args.unreached sound.header sound.table sound.nodes asked.map sound.sound asked.messaging done found counts.nodes counts.folders counts.messages
