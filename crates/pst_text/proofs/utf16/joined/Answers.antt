use Rattle.pst_datatree.specs.Left.{slices_left}
use Rattle.pst_text.proofs.HexLemmas.{joined_on, joined_end}
use Rattle.pst_text.proofs.utf16.joined.Goals as goal

pub loop-piece-preserved : goal.loop-piece-preserved
loop-piece-preserved c =
    joined_on _ _ _ c.in-Some.piece.now (slices_left c.loop-piece.piece-iterator) (slices_left c.next.new.self) c.in-Some.ensures.steps.0 c.in_ok-extend_from_slice.ensures.items c.loop-piece.invariant

pub returns : goal.returns
returns c = joined_end _ _ (slices_left c.loop-piece.piece-iterator) c.in-None.ensures.steps.0.0 c.loop-piece.invariant
