use Rattle.std.proofs.Common.{◌∙◌}
use Rattle.pst_json.proofs.ListingLemmas.{row_noted, row_rises_on}
use Rattle.pst_json.proofs.listings.Listings.note_rows.Goals as goal

pub loop-row-preserved : goal.loop-row-preserved
loop-row-preserved c =
    let i = c.loop-row.invariant in
    let is = c.in-Some.ensures.steps.0 in
    record {
      same = c.in-Some.ensures.steps.2 ∙ i.same;
      rise = row_rises_on i.rise.0 _ _ _ i.rise.1 is;
      noted = λ nid. row_noted nid c.args.folder i.rise.0 _ _ _ _ _ _ i.rise.1 is (rw c.id.ensures at (c.in_ok-note.ensures nid)) (i.noted nid);
    }
