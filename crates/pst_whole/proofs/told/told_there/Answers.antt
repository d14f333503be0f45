use Rattle.std.proofs.Common.{rules}
use Rattle.std.proofs.lemmas.Fn.{filter_same}
use Rattle.pst_btree.specs.Lists.{nodes_in_list}
use Rattle.pst_whole.specs.Nodes.{is_there}
use Rattle.pst_whole.proofs.told.told_there.Goals as goal

pub returns : goal.returns
returns c = filter_same _ (is_there (nodes_in_list c.args.nodes)) _ (λ x b q k. search rules) c.args.told.items c.retain.new.self.items c.retain.ensures.filtered
