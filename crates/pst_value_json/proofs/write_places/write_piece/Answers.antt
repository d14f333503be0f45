use Rattle.std.proofs.Common.{[], ◌∷◌}
use Rattle.pst_text.specs.Parts.{natural}
use Rattle.pst_value_json.proofs.write_places.write_piece.Goals as goal

pub returns-clause-put : goal.returns-clause-put
returns-clause-put g c =
    let at = natural c.args.piece.at in
    let len = natural c.args.piece.len in
    c.close_list.ensures.put _ (at ∷ len ∷ [])
    (c.in_ok-item-2.ensures.put _ _ (at ∷ []) len
    (c.in_ok-comma-2.ensures.put _ (at ∷ []) (c.in_ok-item.ensures.put _ _ [] at (c.in_ok-comma.ensures.put _ [] c.in_ok-open_list.ensures.put) c.in_ok-leaf.ensures.put))
    c.in_ok-leaf-2.ensures.put)
