use Rattle.pst_ndb.specs.Views.{table_of_node, roots_of}
use Rattle.pst_names.specs.View.{node_of_names}
use Rattle.pst_names.proofs.NameLaws.{none_names}
use Rattle.pst_names.proofs.name_map.NameMap.is_sound.Goals as goal

pub returns-clause-map : goal.returns-clause-map
returns-clause-map c = none_names (table_of_node (node_of_names c.args.self.now)) (roots_of (node_of_names c.args.self.now)) c.args.self.now.sound
