use Rattle.pst_subnode.proofs.RangeLemmas.{no_ranges}
use Rattle.pst_subnode.proofs.ranges.Ranges.new.Goals as goal

pub returns : goal.returns
returns c t = no_ranges t _ c.new.ensures.empty (c.new-2.ensures t)
