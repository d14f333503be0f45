use Rattle.pst_datatree.specs.Left.{pieces_table, pieces_named, position_left}
use Rattle.pst_datatree.proofs.InsideLemmas.{shown_inside}
use Rattle.pst_datatree.proofs.pieces.Pieces.lie_inside.Goals as goal

pub returns : goal.returns
returns c = let p = c.args.self.now in shown_inside (pieces_table p) (pieces_named p) (position_left p) p.whole p.skip p.left p.within p.there
