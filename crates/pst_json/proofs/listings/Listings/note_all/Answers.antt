use Rattle.std.proofs.lemmas.List.{drop_more}
use Rattle.pst_json.proofs.ListingLemmas.{id_noted, ids_rise_on}
use Rattle.pst_json.proofs.listings.Listings.note_all.Goals as goal

pub loop-message-preserved : goal.loop-message-preserved
loop-message-preserved c =
    let i = c.loop-message.invariant in
    let is = drop_more c.args.messages.now c.loop-message.message-index _ c.loop-message-test.true in
    record {
      rise = ids_rise_on i.rise.0 _ _ _ i.rise.1 is;
      noted = λ nid. id_noted nid c.args.folder i.rise.0 _ _ _ _ _ _ i.rise.1 is (c.in_ok-note.ensures nid) (i.noted nid);
    }
