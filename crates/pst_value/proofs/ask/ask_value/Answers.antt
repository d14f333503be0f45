use Rattle.std.proofs.Common.{rules}
use Rattle.pst_ndb.specs.Views.{table_of_node, roots_of}
use Rattle.pst_heap.specs.View.{node_of}
use Rattle.pst_value.proofs.AskLemmas.{item_holds}
use Rattle.pst_value.proofs.ask.ask_value.Goals as goal

pub returns-in-Item-clause-holds : goal.returns-in-Item-clause-holds
returns-in-Item-clause-holds c = λ place s e met.
    let node = node_of c.args.heap.now in
    item_holds (table_of_node node) (roots_of node) s c.args.kind.0 place c.in-Item.field-0 c.args.raw e (search rules) (search rules) c.requires.sound
