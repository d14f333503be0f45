use Rattle.pst_text.proofs.KeptLemmas.{kept_here, kept_through, kept_so}
use Rattle.pst_text.proofs.values.put_bytes.Goals as goal

pub returns-in_err-put_pieces-in-Pieces-clause-kept : goal.returns-in_err-put_pieces-in-Pieces-clause-kept
returns-in_err-put_pieces-in-Pieces-clause-kept c =
    kept_so c.from_residual-in_err-put_pieces-in-Pieces.result _ _ (kept_through _ _ _ (kept_here _ _ _ c.in_ok-push.ensures.items) c.in_err-put_pieces-in-Pieces.ensures.kept)
