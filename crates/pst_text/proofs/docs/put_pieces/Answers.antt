use Rattle.pst_datatree.specs.Left.{slices_left}
use Rattle.pst_text.proofs.HexLemmas.{digits_on, digits_end}
use Rattle.pst_text.proofs.docs.put_pieces.Goals as goal

pub loop-piece-preserved : goal.loop-piece-preserved
loop-piece-preserved c = digits_on _ _ _ c.in-Some.piece.now (slices_left c.loop-piece.piece-iterator) (slices_left c.next.new.self) c.in-Some.ensures.steps.0 c.in_ok-put_digits.ensures c.loop-piece.invariant

pub returns : goal.returns
returns c = digits_end _ _ (slices_left c.loop-piece.piece-iterator) c.in-None.ensures.steps.0.0 c.loop-piece.invariant
