use Rattle.std.proofs.Common.{[]}
use Rattle.pst_value_json.proofs.trees.only.Goals as goal

pub returns : goal.returns
returns c d is = (c.take_last.ensures [] d is).0
