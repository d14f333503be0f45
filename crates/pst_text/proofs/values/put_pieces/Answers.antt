use Rattle.pst_datatree.specs.Left.{slices_left}
use Rattle.pst_text.proofs.HexLemmas.{pieces_on, pieces_end}
use Rattle.pst_text.proofs.KeptLemmas.{kept_more, kept_through, kept_so}
use Rattle.pst_text.proofs.values.put_pieces.Goals as goal

pub loop-piece-preserved : goal.loop-piece-preserved
loop-piece-preserved c = record {
  all = pieces_on _ _ _ c.in-Some.piece.now (slices_left c.loop-piece.piece-iterator) (slices_left c.next.new.self) c.in-Some.ensures.steps.0 c.in_ok-put_lower_bytes.ensures.put c.loop-piece.invariant.all;
  kept = kept_more _ _ _ _ c.loop-piece.invariant.kept c.in_ok-put_lower_bytes.ensures.put;
}

pub returns-clause-put : goal.returns-clause-put
returns-clause-put c = pieces_end _ _ (slices_left c.loop-piece.piece-iterator) c.in-None.ensures.steps.0.0 c.loop-piece.invariant.all

pub returns-in_err-put_lower_bytes-clause-kept : goal.returns-in_err-put_lower_bytes-clause-kept
returns-in_err-put_lower_bytes-clause-kept c = kept_so c.from_residual.result _ _ (kept_through _ _ _ c.loop-piece.invariant.kept c.in_err-put_lower_bytes.ensures.kept)
